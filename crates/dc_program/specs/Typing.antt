-- The type that an expression of each form has by the types of its parts, or the rule that they break (C11 6.5).
use Rattle.std.specs.Prelude.{ℕ, Bool, true, false, ◌&&◌, ◌||◌, Option, Some, None, Result, Ok, Err, slice_get, nat_eq, if◌then◌else◌}
use Rattle.std.specs.Option.{ok_or, option_map, option_and_then}
use Rattle.dc_layout.specs.Types.{PlainType, Pointer, Func, PlainTypes, NoTypes, Structs, members_of}
use Rattle.dc_num.specs.declared.kind.NumKind.{NumKind}
use Rattle.dc_num.specs.declared.operators.BinOp.{BinOp}
use Rattle.dc_num.specs.declared.operators.BinOp.TheVariants.{Add, Sub, Mul, Div, Rem, Shl, Shr, And, Or, Xor, Lt, Le, Gt, Ge, Eq, Ne}
use Rattle.dc_num.specs.Conversions.{promoted, common_of}
use Rattle.dc_program.specs.declared.operators.UnaryOp.{UnaryOp}
use Rattle.dc_program.specs.declared.operators.UnaryOp.TheVariants as unary
use Rattle.dc_program.specs.declared.rule.Rule.{Rule}
use Rattle.dc_program.specs.declared.rule.Rule.TheVariants.{Incomplete, IntegerNeeded, TruthNeeded, NoPointer, NoMember, NoIndex, Incomparable, NoSum, ArmsDiffer, NoCall, NoSize}
use Rattle.dc_program.specs.Types.{number, int, size, distance, alike, bare, is_const, qualified_if, decayed, number_kind, is_number, pointee, is_pointer, is_pointer_type, is_scalar, is_function, is_void, is_object_pointer, is_void_pointer, struct_of, is_complete}

abbrev pub Judged : Type 0 → Type 0
Judged A = Result A Rule

-- the type, where the test holds
abbrev pub keeps : Rule → Bool → PlainType → Judged PlainType
keeps rule true t = Ok t
keeps rule false t = Err rule

-- the kind of an integer operand
abbrev pub integer : PlainType → Judged NumKind
integer t = ok_or (number_kind t) IntegerNeeded

-- two integer operands have their common type (C11 6.3.1.8)
abbrev pub balanced_kinds : Option NumKind → Option NumKind → Judged PlainType
balanced_kinds (Some k) (Some l) = Ok (number (common_of k l))
balanced_kinds k l = Err IntegerNeeded

abbrev pub balanced_type : PlainType → PlainType → Judged PlainType
balanced_type t u = balanced_kinds (number_kind t) (number_kind u)

-- a shift has the promoted type of its first operand (C11 6.5.7)
abbrev pub shift_kinds : Option NumKind → Option NumKind → Judged PlainType
shift_kinds (Some k) (Some l) = Ok (number (promoted k))
shift_kinds k l = Err IntegerNeeded

abbrev pub shift_type : PlainType → PlainType → Judged PlainType
shift_type t u = shift_kinds (number_kind t) (number_kind u)

-- a pointer that may be moved: what it points to has a size
abbrev pub moved_target : Structs → PlainType → Option PlainType → Rule → Judged PlainType
moved_target structs t None rule = Err rule
moved_target structs t (Some e) rule = keeps Incomplete (is_complete structs e) (decayed t)

abbrev pub moved_type : Structs → PlainType → Rule → Judged PlainType
moved_type structs t rule = moved_target structs t (pointee t) rule

-- a sum of numbers, or of a pointer and an integer, in either order (C11 6.5.6)
abbrev pub sum_type : Structs → PlainType → PlainType → Judged PlainType
sum_type structs t u =
    if is_number t && is_number u then balanced_type t u
    else (if is_number u then moved_type structs t NoSum
    else (if is_number t then moved_type structs u NoSum
    else Err NoSum))

-- two pointers to types that are equal up to qualifiers and have a size
abbrev pub distance_targets : Structs → Option PlainType → Option PlainType → Judged PlainType
distance_targets structs (Some t) (Some u) = if alike t u then keeps Incomplete (is_complete structs t) distance else Err NoSum
distance_targets structs t u = Err NoSum

-- a difference of numbers, of a pointer and an integer, or of two pointers
abbrev pub difference_type : Structs → PlainType → PlainType → Judged PlainType
difference_type structs t u =
    if is_number t && is_number u then balanced_type t u
    else (if is_number u then moved_type structs t NoSum
    else distance_targets structs (pointee t) (pointee u))

abbrev pub alike_targets : Option PlainType → Option PlainType → Bool
alike_targets (Some t) (Some u) = alike t u
alike_targets t u = false

-- two pointers of equal target, or a pointer to an object and one to void
abbrev pub are_comparable : PlainType → PlainType → Bool
are_comparable t u =
    alike_targets (pointee t) (pointee u)
    || is_object_pointer t && is_void_pointer u
    || is_void_pointer t && is_object_pointer u

-- a comparison gives an int (C11 6.5.8)
abbrev pub relation_type : PlainType → PlainType → Judged PlainType
relation_type t u = keeps Incomparable (is_number t && is_number u || are_comparable t u) int

-- and one for equality takes a null pointer constant beside a pointer too (C11 6.5.9)
abbrev pub equality_type : PlainType → Bool → PlainType → Bool → Judged PlainType
equality_type t t_is_null u u_is_null =
    keeps Incomparable (is_number t && is_number u || are_comparable t u || is_pointer t && u_is_null || t_is_null && is_pointer u) int

-- an operator with two operands, of which it is said whether they are null pointer constants
abbrev pub binary_type : Structs → BinOp → PlainType → Bool → PlainType → Bool → Judged PlainType
binary_type structs Add t n u m = sum_type structs t u
binary_type structs Sub t n u m = difference_type structs t u
binary_type structs Mul t n u m = balanced_type t u
binary_type structs Div t n u m = balanced_type t u
binary_type structs Rem t n u m = balanced_type t u
binary_type structs Shl t n u m = shift_type t u
binary_type structs Shr t n u m = shift_type t u
binary_type structs And t n u m = balanced_type t u
binary_type structs Or t n u m = balanced_type t u
binary_type structs Xor t n u m = balanced_type t u
binary_type structs Lt t n u m = relation_type t u
binary_type structs Le t n u m = relation_type t u
binary_type structs Gt t n u m = relation_type t u
binary_type structs Ge t n u m = relation_type t u
binary_type structs Eq t n u m = equality_type t n u m
binary_type structs Ne t n u m = equality_type t n u m

-- an operand that is tested against 0 (C11 6.5.3.3, 6.5.13 to 6.5.15)
abbrev pub truth_type : PlainType → Judged PlainType
truth_type t = keeps TruthNeeded (is_scalar t) int

abbrev pub promoted_type : Judged NumKind → Judged PlainType
promoted_type (Ok k) = Ok (number (promoted k))
promoted_type (Err rule) = Err rule

abbrev pub unary_type : UnaryOp → PlainType → Judged PlainType
unary_type unary.Plus t = promoted_type (integer t)
unary_type unary.Negate t = promoted_type (integer t)
unary_type unary.Complement t = promoted_type (integer t)
unary_type unary.Not t = truth_type t

-- an element, of a type that has a size (C11 6.5.2.1)
abbrev pub element : Structs → Option PlainType → Judged PlainType
element structs None = Err NoIndex
element structs (Some t) = keeps Incomplete (is_complete structs t) t

abbrev pub index_type : Structs → PlainType → PlainType → Judged PlainType
index_type structs t u =
    if is_number u then element structs (pointee t)
    else (if is_number t then element structs (pointee u) else Err NoIndex)

-- what a pointer points to: a function or something of a size (C11 6.5.3.2)
abbrev pub target_type : Structs → Option PlainType → Judged PlainType
target_type structs None = Err NoPointer
target_type structs (Some t) = keeps NoPointer (is_function t || is_complete structs t) t

abbrev pub deref_type : Structs → PlainType → Judged PlainType
deref_type structs t = target_type structs (pointee t)

-- a member of the struct that a type is; that of a const struct is const (C11 6.5.2.3)
abbrev pub member_in : Structs → PlainType → ℕ → Option PlainType
member_in structs t k = option_and_then (λ s. option_and_then (λ members. slice_get members k) (members_of structs s)) (struct_of t)

abbrev pub member_type : Structs → PlainType → ℕ → Judged PlainType
member_type structs t k = ok_or (option_map (qualified_if (is_const t)) (member_in structs t k)) NoMember

abbrev pub through_target : Structs → Option PlainType → ℕ → Judged PlainType
through_target structs None k = Err NoMember
through_target structs (Some t) k = member_type structs t k

abbrev pub through_type : Structs → PlainType → ℕ → Judged PlainType
through_type structs t k = through_target structs (pointee t) k

-- a size (C11 6.5.3.4)
abbrev pub sizeof_type : Structs → PlainType → Judged PlainType
sizeof_type structs t = keeps NoSize (is_complete structs t) size

abbrev pub same_structs : Option ℕ → Option ℕ → Bool
same_structs (Some s) (Some r) = nat_eq s r
same_structs s r = false

-- equal structs
abbrev pub are_equal_structs : PlainType → PlainType → Bool
are_equal_structs t u = same_structs (struct_of t) (struct_of u)

-- a value of the second type, of which it is said whether it is a null pointer constant, can be assigned to the first
-- (C11 6.5.16.1)
abbrev pub is_assignable : PlainType → PlainType → Bool → Bool
is_assignable t u u_is_null =
    is_number t && is_number u
    || are_equal_structs t u
    || is_pointer_type t && (are_comparable t u || u_is_null)

-- a cast (C11 6.5.4); one to void isn't asked for here
abbrev pub is_cast : PlainType → PlainType → Bool → Bool
is_cast t u u_is_zero =
    is_number t && is_number u
    || is_pointer_type t && (is_object_pointer t && is_object_pointer u || u_is_zero || alike_targets (pointee t) (pointee u))

-- the arms of a conditional (C11 6.5.15): numbers have their common type; of pointers the one to void, else the first,
-- with the qualifiers of both targets
abbrev pub joined : PlainType → PlainType → PlainType
joined t u = qualified_if (is_const u) t

abbrev pub arm_targets : Option PlainType → Option PlainType → Judged PlainType
arm_targets (Some t) (Some u) =
    if is_void (bare u) then Ok (Pointer (joined u t)) else Ok (Pointer (joined t u))
arm_targets t u = Err ArmsDiffer

abbrev pub arms_type : PlainType → PlainType → Judged PlainType
arms_type t u =
    if is_number t && is_number u then balanced_type t u
    else (if are_equal_structs t u then Ok (bare t)
    else (if are_comparable t u then arm_targets (pointee t) (pointee u) else Err ArmsDiffer))

-- what a call gives, and what it takes (C11 6.5.2.2)
abbrev pub called_target : Option PlainType → Judged PlainType
called_target (Some (Func t ts)) = Ok (Func t ts)
called_target t = Err NoCall

abbrev pub called_type : PlainType → Judged PlainType
called_type t = called_target (pointee t)

abbrev pub result_of : PlainType → PlainType
result_of (Func t ts) = t
result_of t = t

abbrev pub parameters_of : PlainType → PlainTypes
parameters_of (Func t ts) = ts
parameters_of t = NoTypes
