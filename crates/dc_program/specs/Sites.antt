-- The sites of expressions, in the order of the text.
use Rattle.std.specs.Prelude.{Bool, true, false, List, [], ◌∷◌, ◌++◌, if◌then◌else◌}
use Rattle.dc_program.specs.declared.location.Location.{Location}
use Rattle.dc_program.specs.Expressions.{Expr, Typed, Form, Index, Call, Malloc, Calloc, Free, Memset, Memcpy, Memmove, Assert, Assume, Member, Through, After, Before, AddressOf, Deref, Unary, SizeofExpression, Cast, Binary, Logical, Conditional, Assign, AssignBy, Quantify, IsFresh, IsFreeable, WasFreed, PointerEquals, PointerInRange, IsAccessible, ObeysContract, Old, LoopEntry, Exprs, NoExprs, More}

abbrev pub is_call : Form → Bool
is_call (Call f es l) = true
is_call (Malloc a l) = true
is_call (Calloc a b l) = true
is_call (Free a l) = true
is_call (Memset a b c l) = true
is_call (Memcpy a b c l) = true
is_call (Memmove a b c l) = true
is_call (Assert a l) = true
is_call (Assume a l) = true
is_call f = false

-- the form's own site
abbrev pub own_site : Form → List Location
own_site (Call f es l) = l ∷ []
own_site (Malloc a l) = l ∷ []
own_site (Calloc a b l) = l ∷ []
own_site (Free a l) = l ∷ []
own_site (Memset a b c l) = l ∷ []
own_site (Memcpy a b c l) = l ∷ []
own_site (Memmove a b c l) = l ∷ []
own_site (Assert a l) = l ∷ []
own_site (Assume a l) = l ∷ []
own_site (After op a l) = l ∷ []
own_site (Before op a l) = l ∷ []
own_site (Assign a b l) = l ∷ []
own_site (AssignBy op a b l) = l ∷ []
own_site f = []

abbrev mutual
  pub sites_of : Expr → List Location
  sites_of (Typed t f) = own_site f ++ part_sites f

  -- what is assigned: a call has the assignment's site
  pub assigned_sites : Expr → List Location
  assigned_sites (Typed t f) = if is_call f then part_sites f else own_site f ++ part_sites f

  pub part_sites : Form → List Location
  part_sites (Index a b) = sites_of a ++ sites_of b
  part_sites (Call f es l) = sites_of f ++ all_sites es
  part_sites (Malloc a l) = sites_of a
  part_sites (Calloc a b l) = sites_of a ++ sites_of b
  part_sites (Free a l) = sites_of a
  part_sites (Memset a b c l) = sites_of a ++ sites_of b ++ sites_of c
  part_sites (Memcpy a b c l) = sites_of a ++ sites_of b ++ sites_of c
  part_sites (Memmove a b c l) = sites_of a ++ sites_of b ++ sites_of c
  part_sites (Assert a l) = sites_of a
  part_sites (Assume a l) = sites_of a
  part_sites (Member a k) = sites_of a
  part_sites (Through a k) = sites_of a
  part_sites (After op a l) = sites_of a
  part_sites (Before op a l) = sites_of a
  part_sites (AddressOf a) = sites_of a
  part_sites (Deref a) = sites_of a
  part_sites (Unary op a) = sites_of a
  part_sites (SizeofExpression a) = sites_of a
  part_sites (Cast a) = sites_of a
  part_sites (Binary op a b) = sites_of a ++ sites_of b
  part_sites (Logical op a b) = sites_of a ++ sites_of b
  part_sites (Conditional a b c) = sites_of a ++ sites_of b ++ sites_of c
  part_sites (Assign a b l) = sites_of a ++ assigned_sites b
  part_sites (AssignBy op a b l) = sites_of a ++ sites_of b
  part_sites (Quantify q k a b c) = sites_of a ++ sites_of b ++ sites_of c
  part_sites (IsFresh a b) = sites_of a ++ sites_of b
  part_sites (IsFreeable a) = sites_of a
  part_sites (WasFreed a) = sites_of a
  part_sites (PointerEquals a b) = sites_of a ++ sites_of b
  part_sites (PointerInRange a b c) = sites_of a ++ sites_of b ++ sites_of c
  part_sites (IsAccessible x a b) = sites_of a ++ sites_of b
  part_sites (ObeysContract a c) = sites_of a
  part_sites (Old a) = sites_of a
  part_sites (LoopEntry a) = sites_of a
  part_sites f = []

  pub all_sites : Exprs → List Location
  all_sites NoExprs = []
  all_sites (More e es) = sites_of e ++ all_sites es
