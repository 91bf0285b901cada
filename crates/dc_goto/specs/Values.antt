-- The values of expressions of the instruction text.
use Rattle.std.specs.Prelude.{ℕ, zero, suc, ◌+◌, ℤ, pos, ◌+ℤ◌, ◌-ℤ◌, ◌*ℤ◌, int_lt, Bool, true, false, ◌&&◌, ◌||◌, not, nat_le, nat_lt, nat_eq, ◌==◌, List, [], ◌∷◌, ◌++◌, length, Option, None, Some, slice_get, if◌then◌else◌}
use Rattle.std.specs.Option.{option_map}
use Rattle.std.specs.Ordering.{int_eq}
use Rattle.dc_core.specs.Term.{Term, Constant, Register, Variable, Object as ObjectStart, Load, Convert, Unary, Binary, Lazy, Choice, Moved, Distance, Asked, Tested, Between, Quantified}
use Rattle.dc_core.specs.declared.operators.LazyOp.{LazyOp}
use Rattle.dc_core.specs.declared.operators.LazyOp.TheVariants.{Both, Either}
use Rattle.dc_core.specs.declared.operators.Property.{Property}
use Rattle.dc_core.specs.declared.operators.Property.TheVariants.{Start, Size, Offset, Freeable, Freed}
use Rattle.dc_core.specs.declared.operators.RangeTest.{RangeTest}
use Rattle.dc_core.specs.declared.operators.RangeTest.TheVariants.{Accessible, Fresh, New}
use Rattle.dc_core.specs.declared.operators.Quantifier.{Quantifier}
use Rattle.dc_core.specs.declared.operators.Quantifier.TheVariants.{ForAll, Exists}
use Rattle.dc_num.specs.declared.kind.NumKind.{NumKind}
use Rattle.dc_num.specs.declared.kind.NumKind.TheVariants.{Ptr, U64}
use Rattle.dc_num.specs.declared.operators.BinOp.{BinOp}
use Rattle.dc_num.specs.declared.operators.BinOp.TheVariants.{Shl, Shr}
use Rattle.dc_num.specs.Conversions.{bits, converted, natural, truth}
use Rattle.dc_num.specs.Kinds.{is_pointer}
use Rattle.dc_num.specs.Operators.{binary_of, unary_of}
use Rattle.dc_memory.specs.Access.{load}
use Rattle.dc_memory.specs.Context.{is_among}
use Rattle.dc_memory.specs.Objects.{Memory, is_live, object_at}
use Rattle.dc_memory.specs.Places.{start_of, object_of, offset_of, is_inside}
use Rattle.dc_memory.specs.declared.object.ObjKind.{ObjKind}
use Rattle.dc_memory.specs.declared.object.ObjKind.TheVariants.{Function, Heap, Stack, Static}
use Rattle.dc_memory.specs.declared.object.Object.{Object}
use Rattle.dc_program.specs.Kinds.{mem_kind}
use Rattle.dc_program.specs.Values.{are_together, compared_pointers, distance_of, moved, size_at}
use Rattle.dc_writeset.specs.Sets.{PlainSet, PlainSets, innermost, is_freed_since}

-- A value or none, with the objects that `fresh` and `new` have seen by then --------------------------------------

pub record Valued (A : Type 0) : Type 0 where
  pub value : Option A
  pub seen : List ℕ

abbrev pub Values : Type 0 → Type 0
Values A = List ℕ → Valued A

abbrev pub give : {A : Type 0} → A → Values A
give v seen = record { value = Some v; seen = seen }

abbrev pub have : {A : Type 0} → Option A → Values A
have v seen = record { value = v; seen = seen }

-- where an operand has no value, those behind it are not asked
abbrev pub behind : {A B : Type 0} → Option A → (A → Values B) → Values B
behind None f = have None
behind (Some v) f = f v

infixl 10 ◌>>=◌
abbrev pub ◌>>=◌ : {A B : Type 0} → Values A → (A → Values B) → Values B
(values >>= f) seen = behind (values seen).value f (values seen).seen

-- Objects ------------------------------------------------------------------------------------------------------------

abbrev pub has_kind : (ObjKind → Bool) → Option Object → Bool
has_kind test None = false
has_kind test (Some object) = object.live && test object.kind

abbrev pub is_heap : ObjKind → Bool
is_heap Heap = true
is_heap kind = false

abbrev pub is_heap_or_stack : ObjKind → Bool
is_heap_or_stack Heap = true
is_heap_or_stack Stack = true
is_heap_or_stack kind = false

abbrev pub is_no_function : ObjKind → Bool
is_no_function Function = false
is_no_function kind = true

-- the pointer's object lives and is of one of these kinds
abbrev pub points_to : (ObjKind → Bool) → Memory → ℕ → Bool
points_to test memory pointer = has_kind test (object_at memory (object_of pointer))

-- the start of a live heap object
abbrev pub is_heap_start : Memory → ℕ → Bool
is_heap_start memory pointer = offset_of pointer == 0 && points_to is_heap memory pointer

-- a size or an offset in the object, where it lives
abbrev pub of_live : Memory → ℕ → ℕ → Option ℕ
of_live memory pointer n = if is_live memory (object_of pointer) then Some n else None

abbrev pub property : Property → Memory → PlainSets → ℕ → Option ℤ
property Start memory sets pointer = option_map (λ n. pos n) (of_live memory pointer (start_of (object_of pointer)))
property Size memory sets pointer = option_map (λ n. pos n) (of_live memory pointer (size_at (object_at memory (object_of pointer))))
property Offset memory sets pointer = option_map (λ n. pos n) (of_live memory pointer (offset_of pointer))
property Freeable memory sets pointer = Some (truth (pointer == 0 || is_heap_start memory pointer))
property Freed memory sets pointer = Some (truth (is_freed_since (innermost sets.sets) sets.freed (object_of pointer)))

-- lo, p and hi point into one live object, in this order
abbrev pub is_between : Memory → ℕ → ℕ → ℕ → Bool
is_between memory low pointer high =
    are_together memory low pointer && are_together memory pointer high
    && nat_le (offset_of low) (offset_of pointer) && nat_le (offset_of pointer) (offset_of high)

-- the object came behind the set's mark; without a set none did
abbrev pub is_new : Option PlainSet → ℕ → Bool
is_new None object = false
is_new (Some set) object = nat_lt set.mark object

-- Fresh ranges -------------------------------------------------------------------------------------------------------

-- so many bytes of a live object of the heap or a stack, which nothing has seen
abbrev pub is_unseen : Memory → ℕ → ℕ → List ℕ → Bool
is_unseen memory pointer len seen =
    points_to is_heap_or_stack memory pointer && is_inside memory pointer len && not (is_among (object_of pointer) seen)

-- the answer to a test, which sees the object where it holds
abbrev pub seen_if : Bool → ℕ → Values ℤ
seen_if true object seen = record { value = Some (pos 1); seen = object ∷ seen }
seen_if false object seen = record { value = Some (pos 0); seen = seen }

abbrev pub tested : RangeTest → Memory → PlainSets → ℕ → ℕ → Values ℤ
tested Accessible memory sets pointer len seen = give (truth (points_to is_no_function memory pointer && is_inside memory pointer len)) seen
tested Fresh memory sets pointer len seen = seen_if (is_unseen memory pointer len seen) (object_of pointer) seen
tested New memory sets pointer len seen = seen_if (is_new (innermost sets.sets) (object_of pointer) && is_unseen memory pointer len seen) (object_of pointer) seen

-- Operators ----------------------------------------------------------------------------------------------------------

-- a number as a pointer, and as a length
abbrev pub as_pointer : ℤ → ℕ
as_pointer z = bits Ptr z

abbrev pub as_length : ℤ → ℕ
as_length z = bits U64 z

-- the count of a shift is any number; other operands are converted to the kind
abbrev pub right_operand : BinOp → NumKind → ℤ → ℤ
right_operand Shl kind b = b
right_operand Shr kind b = b
right_operand op kind b = converted kind b

abbrev pub operated : BinOp → NumKind → Memory → ℤ → ℤ → Option ℤ
operated op kind memory a b =
    if is_pointer kind then compared_pointers op memory (converted Ptr a) (converted Ptr b) else binary_of op kind (converted kind a) (right_operand op kind b)

abbrev pub is_true : ℤ → Bool
is_true z = not (int_eq z (pos 0))

-- whether the first operand of a lazy operator decides it, and how
abbrev pub decides : LazyOp → Bool → Bool
decides Both left = not left
decides Either left = left

-- Quantifiers --------------------------------------------------------------------------------------------------------

-- what a quantifier says where no value decides it
abbrev pub undecided : Quantifier → Bool
undecided ForAll = true
undecided Exists = false

-- whether a test that held, or didn't, decides it
abbrev pub settles : Quantifier → Bool → Bool
settles ForAll held = not held
settles Exists held = held

-- so many values from one on, up to the first that decides
abbrev pub turns : Quantifier → (ℤ → Values ℤ) → ℕ → ℤ → Values ℤ
turns q body zero i = give (truth (undecided q))
turns q body (suc n) i =
    body i >>= λ v. if settles q (is_true v) then give (truth (is_true v)) else turns q body n (i +ℤ pos 1)

abbrev pub turn_limit : ℕ
turn_limit = 16777216

-- all values from low on below high; more than the limit have no answer
abbrev pub quantified : Quantifier → (ℤ → Values ℤ) → ℤ → ℤ → Values ℤ
quantified q body low high = if nat_le (natural (high -ℤ low)) turn_limit then turns q body (natural (high -ℤ low)) low else have None

-- Expressions --------------------------------------------------------------------------------------------------------

-- registers hold a number or none
abbrev pub Registers : Type 0
Registers = List (Option ℤ)

-- what expressions are asked in
pub record Surroundings : Type 0 where
  pub regs : Registers
  pub memory : Memory
  pub sets : PlainSets

abbrev pub joined : Option (Option ℤ) → Option ℤ
joined None = None
joined (Some v) = v

-- the value of an expression, where the variables of quantifiers have these values, the outermost first
abbrev pub term_value : Surroundings → List ℤ → Term → Values ℤ
term_value s vars (Constant kind z) = give z
term_value s vars (Register r) = have (joined (slice_get s.regs r))
term_value s vars (Variable d) = have (slice_get vars d)
term_value s vars (ObjectStart n) = give (pos (start_of n))
term_value s vars (Load kind a) = term_value s vars a >>= λ p. have (load (mem_kind kind) (as_pointer p) s.memory)
term_value s vars (Convert to from e) = term_value s vars e >>= λ v. give (converted to (converted from v))
term_value s vars (Unary op kind e) = term_value s vars e >>= λ v. have (unary_of op kind (converted kind v))
term_value s vars (Binary op kind a b) = term_value s vars a >>= λ x. term_value s vars b >>= λ y. have (operated op kind s.memory x y)
term_value s vars (Lazy op a b) =
    term_value s vars a >>= λ x.
    if decides op (is_true x) then give (truth (is_true x)) else term_value s vars b >>= λ y. give (truth (is_true y))
term_value s vars (Choice a b c) = term_value s vars a >>= λ x. if is_true x then term_value s vars b else term_value s vars c
term_value s vars (Moved size a b) =
    term_value s vars a >>= λ p. term_value s vars b >>= λ n. have (option_map (λ q. pos q) (moved s.memory (as_pointer p) (n *ℤ pos size)))
term_value s vars (Distance size a b) =
    term_value s vars a >>= λ p. term_value s vars b >>= λ q. have (distance_of s.memory size (as_pointer p) (as_pointer q))
term_value s vars (Asked of a) = term_value s vars a >>= λ p. have (property of s.memory s.sets (as_pointer p))
term_value s vars (Tested test a n) = term_value s vars a >>= λ p. term_value s vars n >>= λ len. tested test s.memory s.sets (as_pointer p) (as_length len)
term_value s vars (Between a b c) =
    term_value s vars a >>= λ low. term_value s vars b >>= λ p. term_value s vars c >>= λ high.
    give (truth (is_between s.memory (as_pointer low) (as_pointer p) (as_pointer high)))
term_value s vars (Quantified q d kind a b body) =
    term_value s vars a >>= λ low. term_value s vars b >>= λ high.
    quantified q (λ i. term_value s (vars ++ i ∷ []) body) (converted kind low) (converted kind high)
