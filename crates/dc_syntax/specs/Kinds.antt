-- Which trees of the code are of one kind, by their outermost variant.
use Rattle.std.specs.Prelude.{Bool, true, false}
use Rattle.dc_syntax.specs.declared.raw.Raw.{Raw}
use Rattle.dc_syntax.specs.declared.raw.Raw.TheOpen.{Raw-F}
use Rattle.dc_syntax.specs.declared.unit.Part.{Part}
use Rattle.dc_syntax.specs.declared.unit.Part.TheOpen.{Part-F}

-- has no tree in it
abbrev pub is_leaf : Raw-F Raw → Bool
is_leaf (Raw-F.Name n p) = true
is_leaf (Raw-F.Constant n p) = true
is_leaf (Raw-F.SpecWord k p) = true
is_leaf (Raw-F.SpecName n p) = true
is_leaf (Raw-F.StructTag n p) = true
is_leaf (Raw-F.EnumTag n p) = true
is_leaf (Raw-F.Enumerator n p) = true
is_leaf Raw-F.Nameless = true
is_leaf (Raw-F.DeclaredName n p) = true
is_leaf _ = false

-- an expression with one tree in it
abbrev pub is_unary : Raw-F Raw → Bool
is_unary (Raw-F.Paren e p) = true
is_unary (Raw-F.Member a n p) = true
is_unary (Raw-F.Through a n p) = true
is_unary (Raw-F.After o a p) = true
is_unary (Raw-F.Before o a p) = true
is_unary (Raw-F.Prefix o a p) = true
is_unary (Raw-F.SizeofExpression a p) = true
is_unary (Raw-F.SizeofType a p) = true
is_unary _ = false

-- an expression with several trees in it
abbrev pub is_compound : Raw-F Raw → Bool
is_compound (Raw-F.Quantifier k s d c p) = true
is_compound (Raw-F.Index a i p) = true
is_compound (Raw-F.Call f a p) = true
is_compound (Raw-F.Cast a b p) = true
is_compound (Raw-F.Binary o a b p) = true
is_compound (Raw-F.Implies a b p) = true
is_compound (Raw-F.Conditional a b c p) = true
is_compound (Raw-F.Assign o a b p) = true
is_compound _ = false

-- a declarator with a tree in it
abbrev pub is_derived : Raw-F Raw → Bool
is_derived (Raw-F.Wrapped d p) = true
is_derived (Raw-F.Unsized d p) = true
is_derived (Raw-F.Sized d c p) = true
is_derived (Raw-F.Function d a p) = true
is_derived (Raw-F.Pointer k d p) = true
is_derived _ = false

-- has no part in it, and is no clause
abbrev pub is_simple : Part-F Part → Bool
is_simple (Part-F.Single e) = true
is_simple (Part-F.Plain d p) = true
is_simple (Part-F.Empty p) = true
is_simple (Part-F.Simple e p) = true
is_simple (Part-F.Return p) = true
is_simple (Part-F.ReturnValue e p) = true
is_simple (Part-F.Break p) = true
is_simple (Part-F.Continue p) = true
is_simple Part-F.NoStep = true
is_simple (Part-F.Step e) = true
is_simple _ = false

-- a clause or a group without a part in it
abbrev pub is_clause : Part-F Part → Bool
is_clause (Part-F.Requires c p) = true
is_clause (Part-F.Ensures c p) = true
is_clause (Part-F.LoopInvariant c p) = true
is_clause (Part-F.Decreases a m p) = true
is_clause (Part-F.Group a m p) = true
is_clause (Part-F.GroupIf c a m p) = true
is_clause _ = false

-- a statement that says which statements in it run
abbrev pub is_control : Part-F Part → Bool
is_control (Part-F.If c a p) = true
is_control (Part-F.IfElse c a b p) = true
is_control (Part-F.While c l a p) = true
is_control (Part-F.Do a c l p) = true
is_control (Part-F.For f c s l a p) = true
is_control (Part-F.Switch c a p) = true
is_control (Part-F.Case c a p) = true
is_control (Part-F.Default a p) = true
is_control _ = false
