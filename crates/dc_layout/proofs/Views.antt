-- The view of an array.
use Rattle.std.proofs.Common.{◌≡◌, ℕ, sym, ap, ◌∙◌}
use Rattle.dc_layout.specs.declared.ctype.CType.{CType}
use Rattle.dc_layout.specs.declared.ctype.CType.TheViews as code
use Rattle.dc_layout.specs.declared.ctype.CType.TheViews.{rolls-Array}
use Rattle.dc_layout.specs.declared.ctype.CType.TheFolds.{fold-roll-CType}
use Rattle.dc_layout.specs.declared.ctype.CType.TheOpen.{CType-F}
use Rattle.dc_layout.specs.Types.{PlainType, Array, type_step, type_view}

pub type_view-Array : (t : CType) (n : ℕ) → type_view (code.Array t n) ≡ Array (type_view t) n
type_view-Array t n = ap type_view (sym (rolls-Array t n)) ∙ fold-roll-CType PlainType type_step (CType-F.Array t n)
