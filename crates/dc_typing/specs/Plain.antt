-- Expressions whose rules are all judged by now.
use Rattle.std.specs.Prelude.{Bool, true, false, ◌&&◌, not, nat_eq, codes}
use Rattle.std.specs.List.{starts_with}
use Rattle.dc_syntax.specs.declared.raw.Raw.{Raw}
use Rattle.dc_syntax.specs.declared.raw.Raw.TheOpen.{Raw-F}
use Rattle.dc_syntax.specs.Trees.{Tree, Name, Paren, Quantifier, Index, Call, Member, Through, After, Before, Prefix, SizeofExpression, SizeofType, Cast, Binary, Implies, Conditional, Assign, Arguments, More, TypeName, Wrapped, Unsized, Sized, Function, Pointer, SomeParameters, Parameter}

-- no quantifier is in it, and no name that begins with __CPROVER_ is used
abbrev pub is_plain : Tree → Bool
is_plain (Name n p) = not (starts_with nat_eq n (codes "__CPROVER_"))
is_plain (Paren e p) = is_plain e
is_plain (Quantifier k s d c p) = false
is_plain (Index a i p) = is_plain a && is_plain i
is_plain (Call f a p) = is_plain f && is_plain a
is_plain (Member a n p) = is_plain a
is_plain (Through a n p) = is_plain a
is_plain (After o a p) = is_plain a
is_plain (Before o a p) = is_plain a
is_plain (Prefix o a p) = is_plain a
is_plain (SizeofExpression a p) = is_plain a
is_plain (SizeofType t p) = is_plain t
is_plain (Cast t a p) = is_plain t && is_plain a
is_plain (Binary o a b p) = is_plain a && is_plain b
is_plain (Implies a b p) = is_plain a && is_plain b
is_plain (Conditional a b c p) = is_plain a && is_plain b && is_plain c
is_plain (Assign o a b p) = is_plain a && is_plain b
is_plain (Arguments a m) = is_plain a && is_plain m
is_plain (More i a m) = is_plain a && is_plain m
is_plain (TypeName s d p) = is_plain d
is_plain (Wrapped d p) = is_plain d
is_plain (Unsized d p) = is_plain d
is_plain (Sized d c p) = is_plain d && is_plain c
is_plain (Function d a p) = is_plain d && is_plain a
is_plain (Pointer k d p) = is_plain d
is_plain (SomeParameters a m) = is_plain a && is_plain m
is_plain (Parameter s d p) = is_plain d
is_plain _ = true

-- a call
abbrev pub is_call : Raw-F Raw → Bool
is_call (Raw-F.Call f a p) = true
is_call _ = false
