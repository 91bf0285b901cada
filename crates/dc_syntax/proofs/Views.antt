-- What was read, variant by variant, as the grammar's tree.
use Rattle.std.proofs.Common.{◌≡◌, List, map, sym, ap, ◌∙◌}
use Rattle.dc_syntax.specs.Tokens.{Place}
use Rattle.dc_syntax.specs.declared.raw.Tag as code
use Rattle.dc_syntax.specs.declared.raw.Raw.{Raw}
use Rattle.dc_syntax.specs.declared.raw.Raw.TheViews as raw
use Rattle.dc_syntax.specs.declared.raw.Raw.TheFolds.{fold-roll-Raw}
use Rattle.dc_syntax.specs.declared.raw.Raw.TheViews.{rolls-StructBody, rolls-EnumBody, rolls-MemberDeclaration}
use Rattle.dc_syntax.specs.declared.raw.Raw.TheOpen.{Raw-F}
use Rattle.dc_syntax.specs.Trees as t
use Rattle.dc_syntax.specs.Trees.{Tree}
use Rattle.dc_syntax.specs.View.{tag_view, members_tree, more_tree, specs_tree, raw_step, raw_view}

pub raw_view-StructBody : (g : code.Tag) (m : List Raw) (p : Place) → raw_view (raw.StructBody g m p) ≡ t.StructBody (tag_view g) (members_tree (map raw_view m)) p
raw_view-StructBody g m p = ap raw_view (sym (rolls-StructBody g m p)) ∙ fold-roll-Raw Tree raw_step (Raw-F.StructBody g m p)

pub raw_view-EnumBody : (g : code.Tag) (e : Raw) (m : List Raw) (p : Place) → raw_view (raw.EnumBody g e m p) ≡ t.EnumBody (tag_view g) (raw_view e) (more_tree t.Enumerators (map raw_view m)) p
raw_view-EnumBody g e m p = ap raw_view (sym (rolls-EnumBody g e m p)) ∙ fold-roll-Raw Tree raw_step (Raw-F.EnumBody g e m p)

pub raw_view-MemberDeclaration : (s : List Raw) (d : Raw) (m : List Raw) (p : Place) → raw_view (raw.MemberDeclaration s d m p) ≡ t.MemberDeclaration (specs_tree (map raw_view s)) (raw_view d) (more_tree t.Declared (map raw_view m)) p
raw_view-MemberDeclaration s d m p = ap raw_view (sym (rolls-MemberDeclaration s d m p)) ∙ fold-roll-Raw Tree raw_step (Raw-F.MemberDeclaration s d m p)
