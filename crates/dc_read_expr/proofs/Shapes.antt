-- What was read, variant by variant, as the grammar's tree.
use Rattle.std.proofs.Common.{◌≡◌, List, map, sym, ap, ◌∙◌}
use Rattle.dc_syntax.specs.Tokens.{Place}
use Rattle.dc_syntax.specs.declared.keyword.Keyword.{Keyword}
use Rattle.dc_syntax.specs.declared.raw.Raw.{Raw}
use Rattle.dc_syntax.specs.declared.raw.Raw.TheViews as raw
use Rattle.dc_syntax.specs.declared.raw.Raw.TheFolds.{fold-roll-Raw}
use Rattle.dc_syntax.specs.declared.raw.Raw.TheViews.{rolls-Pointer, rolls-Parameter, rolls-Quantifier, rolls-Function, rolls-Sized, rolls-Unsized, rolls-Wrapped}
use Rattle.dc_syntax.specs.declared.raw.Raw.TheOpen.{Raw-F}
use Rattle.dc_syntax.specs.Trees as t
use Rattle.dc_syntax.specs.Trees.{Tree}
use Rattle.dc_syntax.specs.View.{specs_tree, parameters_tree, raw_step, raw_view}

pub raw_view-Pointer : (k : List Keyword) (d : Raw) (p : Place) → raw_view (raw.Pointer k d p) ≡ t.Pointer k (raw_view d) p
raw_view-Pointer k d p = ap raw_view (sym (rolls-Pointer k d p)) ∙ fold-roll-Raw Tree raw_step (Raw-F.Pointer k d p)

pub raw_view-Parameter : (s : List Raw) (d : Raw) (p : Place) → raw_view (raw.Parameter s d p) ≡ t.Parameter (specs_tree (map raw_view s)) (raw_view d) p
raw_view-Parameter s d p = ap raw_view (sym (rolls-Parameter s d p)) ∙ fold-roll-Raw Tree raw_step (Raw-F.Parameter s d p)

pub raw_view-Quantifier : (k : Keyword) (s : List Raw) (d c : Raw) (p : Place) → raw_view (raw.Quantifier k s d c p) ≡ t.Quantifier k (specs_tree (map raw_view s)) (raw_view d) (raw_view c) p
raw_view-Quantifier k s d c p = ap raw_view (sym (rolls-Quantifier k s d c p)) ∙ fold-roll-Raw Tree raw_step (Raw-F.Quantifier k s d c p)

pub raw_view-Function : (d : Raw) (a : List Raw) (p : Place) → raw_view (raw.Function d a p) ≡ t.Function (raw_view d) (parameters_tree (map raw_view a)) p
raw_view-Function d a p = ap raw_view (sym (rolls-Function d a p)) ∙ fold-roll-Raw Tree raw_step (Raw-F.Function d a p)

pub raw_view-Sized : (d c : Raw) (p : Place) → raw_view (raw.Sized d c p) ≡ t.Sized (raw_view d) (raw_view c) p
raw_view-Sized d c p = ap raw_view (sym (rolls-Sized d c p)) ∙ fold-roll-Raw Tree raw_step (Raw-F.Sized d c p)

pub raw_view-Unsized : (d : Raw) (p : Place) → raw_view (raw.Unsized d p) ≡ t.Unsized (raw_view d) p
raw_view-Unsized d p = ap raw_view (sym (rolls-Unsized d p)) ∙ fold-roll-Raw Tree raw_step (Raw-F.Unsized d p)

pub raw_view-Wrapped : (d : Raw) (p : Place) → raw_view (raw.Wrapped d p) ≡ t.Wrapped (raw_view d) p
raw_view-Wrapped d p = ap raw_view (sym (rolls-Wrapped d p)) ∙ fold-roll-Raw Tree raw_step (Raw-F.Wrapped d p)
