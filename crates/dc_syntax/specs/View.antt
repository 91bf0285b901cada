-- What was read, as the grammar's tree.
use Rattle.std.specs.Prelude.{List, [], ◌∷◌}
use Rattle.dc_syntax.specs.declared.raw.Raw.{Raw}
use Rattle.dc_syntax.specs.declared.raw.Raw.TheFolds.{fold-Raw}
use Rattle.dc_syntax.specs.declared.raw.Raw.TheOpen.{Raw-F}
use Rattle.dc_syntax.specs.declared.raw.Tag as code
use Rattle.dc_syntax.specs.declared.raw.Tag.TheVariants as raw
use Rattle.dc_syntax.specs.Trees as t
use Rattle.dc_syntax.specs.Trees.{Tree, Item}

abbrev pub tag_view : code.Tag → t.Tag
tag_view raw.NoTag = t.NoTag
tag_view (raw.Tagged n p) = t.Tagged n p

-- the members of a list behind its first
abbrev pub more_tree : Item → List Tree → Tree
more_tree i [] = t.NoMore i
more_tree i (a ∷ rest) = t.More i a (more_tree i rest)

abbrev pub arguments_tree : List Tree → Tree
arguments_tree [] = t.NoArguments
arguments_tree (a ∷ rest) = t.Arguments a (more_tree t.Assigned rest)

abbrev pub parameters_tree : List Tree → Tree
parameters_tree [] = t.NoParameters
parameters_tree (a ∷ rest) = t.SomeParameters a (more_tree t.Parameters rest)

abbrev pub members_tree : List Tree → Tree
members_tree [] = t.NoMembers
members_tree (a ∷ rest) = t.Members a (members_tree rest)

abbrev pub specs_behind : Tree → List Tree → Tree
specs_behind s [] = t.LastSpec s
specs_behind s (a ∷ rest) = t.Specs s (specs_behind a rest)

-- specs have at least one spec
abbrev pub specs_tree : List Tree → Tree
specs_tree [] = t.Nameless
specs_tree (s ∷ rest) = specs_behind s rest

abbrev pub raw_step : Raw-F Tree → Tree
raw_step (Raw-F.Name n p) = t.Name n p
raw_step (Raw-F.Constant n p) = t.Constant n p
raw_step (Raw-F.Paren e p) = t.Paren e p
raw_step (Raw-F.Quantifier k s d c p) = t.Quantifier k (specs_tree s) d c p
raw_step (Raw-F.Index a i p) = t.Index a i p
raw_step (Raw-F.Call f a p) = t.Call f (arguments_tree a) p
raw_step (Raw-F.Member a n p) = t.Member a n p
raw_step (Raw-F.Through a n p) = t.Through a n p
raw_step (Raw-F.After o a p) = t.After o a p
raw_step (Raw-F.Before o a p) = t.Before o a p
raw_step (Raw-F.Prefix o a p) = t.Prefix o a p
raw_step (Raw-F.SizeofExpression a p) = t.SizeofExpression a p
raw_step (Raw-F.SizeofType a p) = t.SizeofType a p
raw_step (Raw-F.Cast a b p) = t.Cast a b p
raw_step (Raw-F.Binary o a b p) = t.Binary o a b p
raw_step (Raw-F.Implies a b p) = t.Implies a b p
raw_step (Raw-F.Conditional a b c p) = t.Conditional a b c p
raw_step (Raw-F.Assign o a b p) = t.Assign o a b p
raw_step (Raw-F.TypeName s d p) = t.TypeName (specs_tree s) d p
raw_step (Raw-F.SpecWord k p) = t.SpecWord k p
raw_step (Raw-F.SpecName n p) = t.SpecName n p
raw_step (Raw-F.StructBody g m p) = t.StructBody (tag_view g) (members_tree m) p
raw_step (Raw-F.StructTag n p) = t.StructTag n p
raw_step (Raw-F.EnumBody g e m p) = t.EnumBody (tag_view g) e (more_tree t.Enumerators m) p
raw_step (Raw-F.EnumTag n p) = t.EnumTag n p
raw_step (Raw-F.MemberDeclaration s d m p) = t.MemberDeclaration (specs_tree s) d (more_tree t.Declared m) p
raw_step (Raw-F.Enumerator n p) = t.Enumerator n p
raw_step (Raw-F.EnumeratorValue n c p) = t.EnumeratorValue n c p
raw_step Raw-F.Nameless = t.Nameless
raw_step (Raw-F.DeclaredName n p) = t.DeclaredName n p
raw_step (Raw-F.Wrapped d p) = t.Wrapped d p
raw_step (Raw-F.Unsized d p) = t.Unsized d p
raw_step (Raw-F.Sized d c p) = t.Sized d c p
raw_step (Raw-F.Function d a p) = t.Function d (parameters_tree a) p
raw_step (Raw-F.Pointer k d p) = t.Pointer k d p
raw_step (Raw-F.Parameter s d p) = t.Parameter (specs_tree s) d p

abbrev pub raw_view : Raw → Tree
raw_view = fold-Raw Tree raw_step
