-- The values and places of expressions without side effects (C11 6.5): a number, or none where it is undefined.
use Rattle.std.specs.Prelude.{ℕ, zero, suc, ◌+◌, ℤ, pos, negsuc, ◌+ℤ◌, ◌-ℤ◌, ◌*ℤ◌, int_div, Bool, ◌&&◌, ◌||◌, nat_eq, nat_le, Option, Some, None, Result, Ok, Err, List, length, slice_get, if◌then◌else◌}
use Rattle.std.specs.Option.{option_map, option_and_then}
use Rattle.std.specs.Int.{int_rem_euclid}
use Rattle.std.specs.Ordering.{int_eq}
use Rattle.dc_layout.specs.Types.{PlainType, Structs}
use Rattle.dc_layout.specs.Layout.{size_answer, offset_answer}
use Rattle.dc_layout.specs.declared.fault.Layout.{Layout}
use Rattle.dc_memory.specs.Access.{load}
use Rattle.dc_memory.specs.Objects.{Memory, object_at}
use Rattle.dc_memory.specs.Places.{start_of, object_of, offset_of, is_inside}
use Rattle.dc_memory.specs.declared.object.Object.{Object}
use Rattle.dc_num.specs.declared.kind.NumKind.{NumKind}
use Rattle.dc_num.specs.declared.kind.NumKind.TheVariants.{Ptr}
use Rattle.dc_num.specs.declared.operators.BinOp.{BinOp}
use Rattle.dc_num.specs.declared.operators.BinOp.TheVariants.{Add, Sub}
use Rattle.dc_num.specs.Conversions.{converted, natural}
use Rattle.dc_num.specs.Operators.{binary_of, is_equality}
use Rattle.dc_program.specs.Constants.{changed_in, computed_in, converted_in, size_in, decided_by, chosen_by}
use Rattle.dc_program.specs.Expressions.{Expr, Typed, Form, Literal, Function, Static, Local, Argument, Kept, Quantified, ReturnValue, Index, Member, Through, AddressOf, Deref, Unary, SizeofExpression, SizeofType, Cast, Binary, Logical, Conditional, type_of}
use Rattle.dc_program.specs.Kinds.{mem_kind}
use Rattle.dc_program.specs.Numbers.{is_zero}
use Rattle.dc_program.specs.Programs.{Program}
use Rattle.dc_program.specs.Stands.{is_array}
use Rattle.dc_program.specs.Types.{is_function, is_number, number_kind, pointee, struct_of, value_kind}

-- what names stand for: the objects of parameters and locals, the arguments at entry, the values that were kept, the
-- variables of quantifiers from the outermost on, and the result
pub record Frame : Type 0 where
  pub objects : List ℕ
  pub arguments : List (Option ℤ)
  pub kept : List (Option ℤ)
  pub quantified : List ℤ
  pub result : Option ℤ

-- objects: the functions first, then the variables of file scope
abbrev pub function_place : ℕ → ℕ
function_place n = start_of (suc n)

abbrev pub static_place : Program → ℕ → ℕ
static_place p n = start_of (suc (length p.functions + n))

abbrev pub size_at : Option Object → ℕ
size_at None = 0
size_at (Some object) = length object.bytes

-- a pointer into a live object, its end included
abbrev pub points_into : Memory → ℕ → Bool
points_into memory pointer = is_inside memory pointer 0

-- the place so many bytes behind the start of an object that a pointer points into, up to its end
abbrev pub landed : Memory → ℕ → ℤ → Option ℕ
landed memory pointer (pos n) = if nat_le n (size_at (object_at memory (object_of pointer))) then Some (start_of (object_of pointer) + n) else None
landed memory pointer (negsuc n) = None

-- a pointer, moved by so many bytes within a live object (C11 6.5.6 p8)
abbrev pub moved : Memory → ℕ → ℤ → Option ℕ
moved memory pointer bytes = if points_into memory pointer then landed memory pointer (pos (offset_of pointer) +ℤ bytes) else None

-- two pointers into one live object
abbrev pub are_together : Memory → ℕ → ℕ → Bool
are_together memory p q = nat_eq (object_of p) (object_of q) && points_into memory p && points_into memory q

-- a distance in elements of a size, where it is a whole number of them (C11 6.5.6 p9)
abbrev pub in_elements : ℕ → ℤ → Option ℤ
in_elements zero bytes = None
in_elements (suc n) bytes = if int_eq (int_rem_euclid bytes (pos (suc n))) (pos 0) then Some (int_div bytes (pos (suc n))) else None

abbrev pub distance_of : Memory → ℕ → ℕ → ℕ → Option ℤ
distance_of memory size p q = if are_together memory p q then in_elements size (pos (offset_of p) -ℤ pos (offset_of q)) else None

-- the size of what a pointer points to
abbrev pub sized : Result ℕ Layout → Option ℕ
sized (Ok n) = Some n
sized (Err fault) = None

abbrev pub target_size : Structs → Option PlainType → Option ℕ
target_size structs None = None
target_size structs (Some t) = sized (size_answer structs t)

abbrev pub step_of : Program → PlainType → Option ℕ
step_of p t = target_size p.structs (pointee t)

-- where member k of the struct begins that a type is
abbrev pub member_offset : Program → Option PlainType → ℕ → Option ℕ
member_offset p None k = None
member_offset p (Some t) k = option_and_then (λ s. sized (offset_answer p.structs s k)) (struct_of t)

-- what an lvalue of a type gives at a place (C11 6.3.2.1): of an array and of a function the place itself
abbrev pub read_as : Option NumKind → Memory → ℕ → Option ℤ
read_as None memory place = None
read_as (Some k) memory place = load (mem_kind k) place memory

abbrev pub read : PlainType → Memory → Option ℕ → Option ℤ
read t memory None = None
read t memory (Some place) = if is_array t || is_function t then Some (pos place) else read_as (value_kind t) memory place

-- two pointers are compared where they are in one object, and for equality always (C11 6.5.8 p5, 6.5.9 p6)
abbrev pub compared_pointers : BinOp → Memory → ℤ → ℤ → Option ℤ
compared_pointers op memory v w =
    if is_equality op || are_together memory (natural v) (natural w) then binary_of op Ptr (converted Ptr v) (converted Ptr w) else None

-- a pointer and a whole number of elements
abbrev pub moved_by : Program → Memory → PlainType → ℤ → ℤ → Option ℤ
moved_by p memory t v n = option_and_then (λ size. option_map (λ place. pos place) (moved memory (natural v) (n *ℤ pos size))) (step_of p t)

-- what an operator makes of two values, by their types: numbers, a pointer and a number in either order, two pointers
abbrev pub sum_of : Program → Memory → PlainType → PlainType → ℤ → ℤ → Option ℤ
sum_of p memory t u v w = if is_number u then moved_by p memory t v w else moved_by p memory u w v

abbrev pub difference_of : Program → Memory → PlainType → PlainType → ℤ → ℤ → Option ℤ
difference_of p memory t u v w =
    if is_number u then moved_by p memory t v (pos 0 -ℤ w)
    else option_and_then (λ size. distance_of memory size (natural v) (natural w)) (step_of p t)

abbrev pub pointers_of : BinOp → Program → Memory → PlainType → PlainType → ℤ → ℤ → Option ℤ
pointers_of Add p memory t u v w = sum_of p memory t u v w
pointers_of Sub p memory t u v w = difference_of p memory t u v w
pointers_of op p memory t u v w = compared_pointers op memory v w

abbrev pub operated : BinOp → Program → Memory → PlainType → PlainType → ℤ → ℤ → Option ℤ
operated op p memory t u v w =
    if is_number t && is_number u then computed_in op (number_kind t) (number_kind u) v w
    else pointers_of op p memory t u v w

-- the value that was kept under a number, or an argument
abbrev pub joined : Option (Option ℤ) → Option ℤ
joined None = None
joined (Some v) = v

abbrev pub as_place : Option ℤ → Option ℕ
as_place v = option_map natural v

-- what both give
abbrev pub both : {A B C : Type 0} → (A → B → Option C) → Option A → Option B → Option C
both f v w = option_and_then (λ a. option_and_then (f a) w) v

-- where a member begins, behind the place of its struct
abbrev pub member_place : Program → Memory → Option PlainType → ℕ → ℕ → Option ℕ
member_place p memory t k place = option_and_then (λ offset. moved memory place (pos offset)) (member_offset p t k)

-- an expression's value, and its place where it has one
pub record Meaning : Type 0 where
  pub value : Option ℤ
  pub place : Option ℕ

abbrev pub at_place : PlainType → Memory → Option ℕ → Meaning
at_place t memory place = record { value = read t memory place; place = place }

abbrev pub a_value : Option ℤ → Meaning
a_value v = record { value = v; place = None }

abbrev pub meaningless : Meaning
meaningless = record { value = None; place = None }

-- the arm that is chosen; numbers in the common type of both
abbrev pub chosen : PlainType → Option ℤ → Meaning → Meaning → Meaning
chosen t None b c = meaningless
chosen t (Some v) b c =
    record {
      value = option_and_then (converted_in (value_kind t)) (chosen_by v b.value c.value);
      place = if is_zero v then c.place else b.place;
    }

abbrev mutual
  pub meaning : Program → Frame → Memory → Expr → Meaning
  meaning p frame memory (Typed t f) = meaning_of p frame memory t f

  pub meaning_of : Program → Frame → Memory → PlainType → Form → Meaning
  meaning_of p frame memory t (Literal v) = a_value (Some v)
  meaning_of p frame memory t (Function n) = at_place t memory (Some (function_place n))
  meaning_of p frame memory t (Static n) = at_place t memory (Some (static_place p n))
  meaning_of p frame memory t (Local n) = at_place t memory (option_map start_of (slice_get frame.objects n))
  meaning_of p frame memory t (Argument n) = a_value (joined (slice_get frame.arguments n))
  meaning_of p frame memory t (Kept n) = a_value (joined (slice_get frame.kept n))
  meaning_of p frame memory t (Quantified n) = a_value (slice_get frame.quantified n)
  meaning_of p frame memory t ReturnValue = a_value frame.result
  meaning_of p frame memory t (Index a b) = at_place t memory (as_place (both (sum_of p memory (type_of a) (type_of b)) (meaning p frame memory a).value (meaning p frame memory b).value))
  meaning_of p frame memory t (Member a k) = at_place t memory (option_and_then (member_place p memory (Some (type_of a)) k) (meaning p frame memory a).place)
  meaning_of p frame memory t (Through a k) = at_place t memory (option_and_then (member_place p memory (pointee (type_of a)) k) (as_place (meaning p frame memory a).value))
  meaning_of p frame memory t (AddressOf a) = a_value (option_map (λ n. pos n) (meaning p frame memory a).place)
  meaning_of p frame memory t (Deref a) = at_place t memory (as_place (meaning p frame memory a).value)
  meaning_of p frame memory t (Unary op a) = a_value (option_and_then (changed_in op (value_kind (type_of a))) (meaning p frame memory a).value)
  meaning_of p frame memory t (SizeofExpression a) = a_value (size_in (size_answer p.structs (type_of a)))
  meaning_of p frame memory t (SizeofType u) = a_value (size_in (size_answer p.structs u))
  meaning_of p frame memory t (Cast a) = a_value (option_and_then (converted_in (value_kind t)) (meaning p frame memory a).value)
  meaning_of p frame memory t (Binary op a b) = a_value (both (operated op p memory (type_of a) (type_of b)) (meaning p frame memory a).value (meaning p frame memory b).value)
  meaning_of p frame memory t (Logical op a b) = a_value (option_and_then (λ v. decided_by op v (meaning p frame memory b).value) (meaning p frame memory a).value)
  meaning_of p frame memory t (Conditional a b c) = chosen t (meaning p frame memory a).value (meaning p frame memory b) (meaning p frame memory c)
  meaning_of p frame memory t f = meaningless

abbrev pub value : Program → Frame → Memory → Expr → Option ℤ
value p frame memory e = (meaning p frame memory e).value

abbrev pub place : Program → Frame → Memory → Expr → Option ℕ
place p frame memory e = (meaning p frame memory e).place
