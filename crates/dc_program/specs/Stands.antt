-- When an expression could stand in a program: what it names is there, and its parts give its type.
use Rattle.std.specs.Prelude.{◌≡◌, ◌≤◌, ℕ, ℤ, Bool, true, false, ◌&&◌, ◌||◌, not, Option, Some, None, Ok, Err, List, [], ◌∷◌, ◌++◌, ◌==◌, map, slice_get, is_ok, ⊤, if◌then◌else◌}
use Rattle.std.specs.Option.{option_map}
use Rattle.dc_layout.specs.Types.{PlainType, Void, Pointer, Array, Func, PlainTypes, NoTypes, Types, Structs, types}
use Rattle.dc_num.specs.declared.kind.NumKind.{NumKind}
use Rattle.dc_num.specs.declared.operators.BinOp.{BinOp}
use Rattle.dc_num.specs.declared.operators.BinOp.TheVariants.{Lt, Le, Gt, Ge, Eq, Ne}
use Rattle.dc_num.specs.Kinds.{IsValue, bits_of}
use Rattle.dc_num.specs.Conversions.{common_of}
use Rattle.dc_program.specs.declared.location.Location.{Location}
use Rattle.dc_program.specs.Expressions.{Expr, Typed, Form, Literal, Function, Static, Local, Argument, Kept, Quantified, ReturnValue, Index, Call, Malloc, Calloc, Free, Memset, Memcpy, Memmove, Assert, Assume, Member, Through, After, Before, AddressOf, Deref, Unary, SizeofExpression, SizeofType, Cast, Binary, Logical, Conditional, Assign, AssignBy, Quantify, IsFresh, IsFreeable, WasFreed, PointerEquals, PointerInRange, IsAccessible, ObeysContract, Old, LoopEntry, Exprs, NoExprs, More, type_of, form_of}
use Rattle.dc_program.specs.Programs as programs
use Rattle.dc_program.specs.Constants.{is_constant_zero, is_null}
use Rattle.dc_program.specs.Sites.{is_call, own_site}
use Rattle.dc_program.specs.Types.{number, int, bare, is_const, decayed, kind_of, number_kind, is_number, is_pointer, is_scalar, is_function, pointee}
use Rattle.dc_program.specs.Typing.{Judged, alike_targets, arms_type, binary_type, called_type, deref_type, index_type, is_assignable, is_cast, member_type, parameters_of, result_of, sizeof_type, sum_type, through_type, unary_type}
use Rattle.dc_program.specs.WellFormed.{is_type}

-- a parameter or local in force, by its number
pub record LocalName : Type 0 where
  pub number : ℕ
  pub type : PlainType

-- the text that an expression stands in; History is the argument of `__CPROVER_old` or `__CPROVER_loop_entry`
pub data Text : Type 0 where
  Code : Text
  Requires : Text
  Ensures : Text
  Targets : Text
  LoopTargets : Text
  Invariant : Text
  Measure : Text
  History : Text

-- what may be named where an expression stands
pub record Setting : Type 0 where
  pub text : Text
  pub locals : List LocalName
  -- the types of the arguments at entry, in a function's clause
  pub arguments : List PlainType
  pub kept : List PlainType
  -- the kinds of the variables of the quantifiers around, the outermost first
  pub quantified : List NumKind
  -- what `__CPROVER_return_value` has
  pub result : Option PlainType
  -- `__CPROVER_is_fresh` may stand
  pub fresh : Bool

abbrev pub holds_predicates : Text → Bool
holds_predicates Requires = true
holds_predicates Ensures = true
holds_predicates text = false

-- whether memory may be read and written is asked in invariants too
abbrev pub holds_accesses : Text → Bool
holds_accesses Invariant = true
holds_accesses text = holds_predicates text

abbrev pub is_ensures : Text → Bool
is_ensures Ensures = true
is_ensures text = false

abbrev pub holds_loop_entry : Text → Bool
holds_loop_entry Invariant = true
holds_loop_entry Measure = true
holds_loop_entry text = false

-- quantifiers stand in clauses alone
abbrev pub holds_quantifiers : Text → Bool
holds_quantifiers Code = false
holds_quantifiers History = false
holds_quantifiers text = true

-- the argument of `__CPROVER_old`: no predicate, no quantifier and none of its variables
abbrev pub in_history : Setting → Setting
in_history s = record s { text = History; quantified = []; fresh = false }

abbrev pub in_quantifier : Setting → Setting
in_quantifier s = record s { fresh = false }

abbrev pub in_body : NumKind → Setting → Setting
in_body k s = record s { quantified = s.quantified ++ k ∷ []; fresh = false }

abbrev pub local_type : List LocalName → ℕ → Option PlainType
local_type [] n = None
local_type (l ∷ ls) n = if l.number == n then Some l.type else local_type ls n

-- a function's type: its parameters' own qualifiers are no part of it (C11 6.7.6.3 p15)
abbrev pub function_type : programs.Function → PlainType
function_type f = Func f.result (types (map bare f.params))

abbrev pub type_of_function : programs.Program → ℕ → Option PlainType
type_of_function p n = option_map function_type (slice_get p.functions n)

abbrev pub type_of_static : programs.Program → ℕ → Option PlainType
type_of_static p n = option_map (λ v. v.type) (slice_get p.statics n)

abbrev mutual
  -- names an object (C11 6.3.2.1)
  pub is_lvalue : Expr → Bool
  is_lvalue (Typed t f) = not (is_function t) && is_place f

  pub is_place : Form → Bool
  is_place (Static n) = true
  is_place (Local n) = true
  is_place (Index a b) = true
  is_place (Deref a) = true
  is_place (Through a k) = true
  is_place (Member a k) = is_lvalue a
  is_place f = false

abbrev pub is_array : PlainType → Bool
is_array (Array t n) = true
is_array t = false

-- an lvalue that may be assigned to: no const one and no array
abbrev pub is_modifiable : Expr → Bool
is_modifiable e = is_lvalue e && not (is_const (type_of e)) && not (is_array (type_of e))

-- an operator that `op=` has
abbrev pub is_assigning : BinOp → Bool
is_assigning Lt = false
is_assigning Le = false
is_assigning Gt = false
is_assigning Ge = false
is_assigning Eq = false
is_assigning Ne = false
is_assigning op = true

abbrev pub IsLiteral : Option NumKind → ℤ → Type 0
IsLiteral None v = ⊥
IsLiteral (Some k) v = IsValue k v

-- the value of an expression can be assigned to the type
abbrev pub takes : Structs → PlainType → Expr → Bool
takes structs t e = is_assignable t (type_of e) (is_null structs e)

-- a call that is assigned has the assignment's site
abbrev pub ShareSiteIf : Bool → Form → Location → Type 0
ShareSiteIf true f l = own_site f ≡ l ∷ []
ShareSiteIf false f l = ⊤

abbrev pub ShareSite : Form → Location → Type 0
ShareSite f l = ShareSiteIf (is_call f) f l

-- a quantifier's variable: as wide as int or wider, and the usual conversions with the ends of its range give its kind
pub record IsRangeOf (k : NumKind) (low high : Option NumKind) : Type 0 where
  pub wide : 32 ≤ bits_of k
  pub with_low : option_map (common_of k) low ≡ Some k
  pub with_high : option_map (common_of k) high ≡ Some k
  pub no_pointer : is_number (number k) ≡ true

-- the parameters and the result of what is called, where it is a function
abbrev pub option_parameters : Judged PlainType → PlainTypes
option_parameters (Ok t) = parameters_of t
option_parameters (Err rule) = NoTypes

abbrev pub called_result : Judged PlainType → Option PlainType
called_result (Ok t) = Some (result_of t)
called_result (Err rule) = None

-- a number, or a pointer that may be moved, is counted up and down
abbrev pub IsStepped : Structs → PlainType → Type 0
IsStepped structs t = is_ok (sum_type structs t int) ≡ true

abbrev pub is_taken_type : PlainType → Judged PlainType → Bool
is_taken_type t (Ok u) = is_assignable t u false
is_taken_type t (Err rule) = false

-- the result of the operator can be assigned to the type of its first operand
abbrev pub is_assigned : Structs → BinOp → PlainType → PlainType → Bool → Bool
is_assigned structs op t u u_is_null = is_taken_type t (binary_type structs op t false u u_is_null)

abbrev mutual
  -- an expression could stand in the program at this place
  pub Stands : programs.Program → Setting → Expr → Type 0
  Stands p s (Typed t f) = StandsAs p s t f

  pub StandsAs : programs.Program → Setting → PlainType → Form → Type 0
  StandsAs p s t (Literal v) = IsLiteral (kind_of t) v
  StandsAs p s t (Function n) = type_of_function p n ≡ Some t
  StandsAs p s t (Static n) = type_of_static p n ≡ Some t
  StandsAs p s t (Local n) = local_type s.locals n ≡ Some t
  StandsAs p s t (Argument n) = slice_get s.arguments n ≡ Some t
  StandsAs p s t (Kept n) = slice_get s.kept n ≡ Some t
  StandsAs p s t (Quantified n) = option_map number (slice_get s.quantified n) ≡ Some t
  StandsAs p s t ReturnValue = s.result ≡ Some t
  StandsAs p s t (Index a b) = record { left : Stands p s a; right : Stands p s b; type : index_type p.structs (type_of a) (type_of b) ≡ Ok t }
  StandsAs p s t (Call f es l) = record { callee : Stands p s f; arguments : ArgumentsStand p s (option_parameters (called_type (type_of f))) es; type : called_result (called_type (type_of f)) ≡ Some t }
  StandsAs p s t (Malloc n l) = record { count : Stands p s n; number : is_number (type_of n) ≡ true; type : t ≡ Pointer Void }
  StandsAs p s t (Calloc n m l) = record { count : Stands p s n; each : Stands p s m; number : is_number (type_of n) ≡ true; each_number : is_number (type_of m) ≡ true; type : t ≡ Pointer Void }
  StandsAs p s t (Free a l) = record { pointer : Stands p s a; taken : takes p.structs (Pointer Void) a ≡ true; type : t ≡ Void }
  StandsAs p s t (Memset a c n l) = record { pointer : Stands p s a; byte : Stands p s c; count : Stands p s n; taken : takes p.structs (Pointer Void) a ≡ true; byte_number : is_number (type_of c) ≡ true; number : is_number (type_of n) ≡ true; type : t ≡ Pointer Void }
  StandsAs p s t (Memcpy a b n l) = record { pointer : Stands p s a; source : Stands p s b; count : Stands p s n; taken : takes p.structs (Pointer Void) a ≡ true; source_taken : takes p.structs (Pointer Void) b ≡ true; number : is_number (type_of n) ≡ true; type : t ≡ Pointer Void }
  StandsAs p s t (Memmove a b n l) = record { pointer : Stands p s a; source : Stands p s b; count : Stands p s n; taken : takes p.structs (Pointer Void) a ≡ true; source_taken : takes p.structs (Pointer Void) b ≡ true; number : is_number (type_of n) ≡ true; type : t ≡ Pointer Void }
  StandsAs p s t (Assert a l) = record { condition : Stands p s a; scalar : is_scalar (type_of a) ≡ true; type : t ≡ Void }
  StandsAs p s t (Assume a l) = record { condition : Stands p s a; scalar : is_scalar (type_of a) ≡ true; type : t ≡ Void }
  StandsAs p s t (Member a k) = record { whole : Stands p s a; type : member_type p.structs (type_of a) k ≡ Ok t }
  StandsAs p s t (Through a k) = record { pointer : Stands p s a; type : through_type p.structs (type_of a) k ≡ Ok t }
  StandsAs p s t (After op a l) = record { place : Stands p s a; modifiable : is_modifiable a ≡ true; stepped : IsStepped p.structs (type_of a); type : t ≡ bare (type_of a) }
  StandsAs p s t (Before op a l) = record { place : Stands p s a; modifiable : is_modifiable a ≡ true; stepped : IsStepped p.structs (type_of a); type : t ≡ bare (type_of a) }
  StandsAs p s t (AddressOf a) = record { place : Stands p s a; addressed : is_lvalue a || is_function (type_of a) ≡ true; type : t ≡ Pointer (type_of a) }
  StandsAs p s t (Deref a) = record { pointer : Stands p s a; type : deref_type p.structs (type_of a) ≡ Ok t }
  StandsAs p s t (Unary op a) = record { operand : Stands p s a; type : unary_type op (type_of a) ≡ Ok t }
  StandsAs p s t (SizeofExpression a) = record { operand : Stands p s a; type : sizeof_type p.structs (type_of a) ≡ Ok t }
  StandsAs p s t (SizeofType u) = record { formed : is_type p.structs u ≡ true; type : sizeof_type p.structs u ≡ Ok t }
  StandsAs p s t (Cast a) = record { operand : Stands p s a; formed : is_type p.structs t ≡ true; cast : is_cast t (type_of a) (is_constant_zero p.structs a) ≡ true; unqualified : is_const t ≡ false }
  StandsAs p s t (Binary op a b) = record { left : Stands p s a; right : Stands p s b; type : binary_type p.structs op (type_of a) (is_null p.structs a) (type_of b) (is_null p.structs b) ≡ Ok t }
  StandsAs p s t (Logical op a b) = record { left : Stands p s a; right : Stands p s b; left_scalar : is_scalar (type_of a) ≡ true; right_scalar : is_scalar (type_of b) ≡ true; type : t ≡ int }
  StandsAs p s t (Conditional a b c) = record { test : Stands p s a; then : Stands p s b; otherwise : Stands p s c; scalar : is_scalar (type_of a) ≡ true; type : arms_type (type_of b) (type_of c) ≡ Ok t }
  StandsAs p s t (Assign a b l) = record { place : Stands p s a; value : Stands p s b; modifiable : is_modifiable a ≡ true; taken : takes p.structs (type_of a) b ≡ true; one_site : ShareSite (form_of b) l; type : t ≡ bare (type_of a) }
  StandsAs p s t (AssignBy op a b l) = record { place : Stands p s a; value : Stands p s b; modifiable : is_modifiable a ≡ true; operator : is_assigning op ≡ true; taken : is_assigned p.structs op (type_of a) (type_of b) (is_null p.structs b) ≡ true; type : t ≡ bare (type_of a) }
  StandsAs p s t (Quantify q k a b e) = record { placed : holds_quantifiers s.text ≡ true; low : Stands p (in_quantifier s) a; high : Stands p (in_quantifier s) b; said : Stands p (in_body k s) e; range : IsRangeOf k (number_kind (type_of a)) (number_kind (type_of b)); scalar : is_scalar (type_of e) ≡ true; type : t ≡ int }
  StandsAs p s t (IsFresh a n) = record { placed : holds_predicates s.text && s.fresh ≡ true; pointer : Stands p s a; count : Stands p s n; points : is_pointer (type_of a) ≡ true; number : is_number (type_of n) ≡ true; type : t ≡ int }
  StandsAs p s t (IsFreeable a) = record { placed : holds_predicates s.text ≡ true; pointer : Stands p s a; points : is_pointer (type_of a) ≡ true; type : t ≡ int }
  StandsAs p s t (WasFreed a) = record { placed : is_ensures s.text ≡ true; pointer : Stands p s a; points : is_pointer (type_of a) ≡ true; type : t ≡ int }
  StandsAs p s t (PointerEquals a b) = record { placed : holds_predicates s.text ≡ true; left : Stands p s a; right : Stands p s b; left_points : is_pointer (type_of a) ≡ true; right_points : is_pointer (type_of b) ≡ true; type : t ≡ int }
  StandsAs p s t (PointerInRange a b c) = record { placed : holds_predicates s.text ≡ true; low : Stands p s a; pointer : Stands p s b; high : Stands p s c; low_points : is_pointer (type_of a) ≡ true; points : is_pointer (type_of b) ≡ true; high_points : is_pointer (type_of c) ≡ true; type : t ≡ int }
  StandsAs p s t (IsAccessible x a n) = record { placed : holds_accesses s.text ≡ true; pointer : Stands p s a; count : Stands p s n; points : is_pointer (type_of a) ≡ true; number : is_number (type_of n) ≡ true; type : t ≡ int }
  StandsAs p s t (ObeysContract a c) = record { placed : holds_predicates s.text ≡ true; pointer : Stands p (in_quantifier s) a; contract : alike_targets (pointee (type_of a)) (type_of_function p c) ≡ true; type : t ≡ int }
  StandsAs p s t (Old a) = record { placed : is_ensures s.text ≡ true; argument : Stands p (in_history s) a; scalar : is_scalar (type_of a) ≡ true; type : t ≡ decayed (type_of a) }
  StandsAs p s t (LoopEntry a) = record { placed : holds_loop_entry s.text ≡ true; argument : Stands p (in_history s) a; scalar : is_scalar (type_of a) ≡ true; type : t ≡ decayed (type_of a) }

  -- as many arguments as parameters, each of which takes its argument
  pub ArgumentsStand : programs.Program → Setting → PlainTypes → Exprs → Type 0
  ArgumentsStand p s NoTypes NoExprs = ⊤
  ArgumentsStand p s NoTypes (More e es) = ⊥
  ArgumentsStand p s (Types t ts) NoExprs = ⊥
  ArgumentsStand p s (Types t ts) (More e es) = record { stands : Stands p s e; taken : takes p.structs t e ≡ true; others : ArgumentsStand p s ts es }
