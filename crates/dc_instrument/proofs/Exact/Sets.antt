-- The write sets of the contract's run as those of the machine.
use Rattle.std.proofs.Common.{◌≡◌, ℕ, zero, suc, ◌+◌, Bool, true, false, ◌&&◌, List, [], ◌∷◌, length, Option, Some, None, refl, ap, sym, ◌∙◌, arith, ℤ, pos, append-nil}
use Rattle.std.specs.Prelude.{slice_get, map, nat_le, nat_lt, not, ◌||◌, if◌then◌else◌}
use Rattle.std.specs.List.{AllByRecursion}
use Rattle.std.specs.Option.{option_map}
use Rattle.std.proofs.lemmas.Bool.Decides.{nat_tests}
use Rattle.dc_core.specs.Contract.{Range, WriteSet, some_contains, allowed, with_ranges, denoted}
use Rattle.dc_core.specs.Contract as contract
use Rattle.dc_memory.specs.declared.object.ObjKind.{ObjKind}
use Rattle.dc_memory.specs.declared.object.ObjKind.TheVariants.{Function}
use Rattle.dc_memory.specs.declared.object.Object.{Object}
use Rattle.dc_memory.specs.Context as context
use Rattle.dc_memory.specs.Objects.{Memory, object_at}
use Rattle.dc_memory.specs.Places.{object_of, offset_of, holds_range, is_inside}
use Rattle.dc_writeset.specs.Sets.{TaggedRange, PlainSet, PlainSets, innermost, is_write_allowed, with_range}
use Rattle.dc_goto.specs.Values.{as_length, as_pointer, has_kind, is_no_function}
use Rattle.dc_goto.specs.Acts.{Now, denotes, is_covered, range_at, ranged}
use Rattle.dc_goto.proofs.Registers.{map-append}
use Rattle.dc_goto.proofs.Values.{as_length-pos}

abbrev pub tagged : Range → TaggedRange
tagged r = record { tag = r.tag; range = record { object = r.object; from = r.from; len = r.len } }

-- a set that names no objects, made when nothing had been freed
abbrev pub plain_set : WriteSet → PlainSet
plain_set set = record { mark = set.mark; ranges = map tagged set.ranges; frees = []; start = 0 }

-- nothing has been freed
abbrev pub plain_sets : List WriteSet → PlainSets
plain_sets sets = record { sets = map plain_set sets; freed = [] }

-- Writes ------------------------------------------------------------------------------------------------------------

contains_same : (ranges : List Range) (object from len : ℕ) → context.some_contains (map (λ r. r.range) (map tagged ranges)) object from len ≡ some_contains ranges object from len
contains_same [] object from len = refl
contains_same (range ∷ ranges) object from len = ap (λ b. contract.contains range object from len || b) (contains_same ranges object from len)

allowed_same : (set : WriteSet) (object from len : ℕ) → is_write_allowed (Some (plain_set set)) object from len ≡ allowed set object from len
allowed_same set object from len = ap (λ b. nat_lt set.mark object || b) (contains_same set.ranges object from len)

-- a write at a pointer, however its sets are given
abbrev may_write : Memory → PlainSets → ℕ → ℕ → Bool
may_write memory sets pointer len = not (nat_lt 0 len && is_inside memory pointer len) || is_write_allowed (innermost sets.sets) (object_of pointer) (offset_of pointer) len

-- the test of a write of an int at a place
pub covered_same : (set : WriteSet) (outer : List WriteSet) (s : Now) (o : Option ℤ) (pointer : ℕ) (b : Bool)
    → s.sets ≡ plain_sets (set ∷ outer) → option_map as_pointer o ≡ Some pointer → is_inside s.world.memory pointer 4 ≡ b
    → is_covered o (Some (pos 4)) s ≡ (if b then allowed set (object_of pointer) (offset_of pointer) 4 else true)
covered_same set outer s None pointer b es eo eb = absurd cc
covered_same set outer s (Some z) pointer b es eo eb =
    let memory = s.world.memory in
    let ez : as_pointer z ≡ pointer = cc in
    ap (λ q. may_write memory s.sets q (as_length (pos 4))) ez
    ∙ ap (λ n. may_write memory s.sets pointer n) (as_length-pos 4 (omega arith))
    ∙ ap (λ sets. may_write memory sets pointer 4) es
    ∙ ap (λ a. not (is_inside memory pointer 4) || a) (allowed_same set (object_of pointer) (offset_of pointer) 4)
    ∙ ap (λ i. not i || allowed set (object_of pointer) (offset_of pointer) 4) eb
    ∙ by b
  where
    by : (b : Bool) → (not b || allowed set (object_of pointer) (offset_of pointer) 4) ≡ (if b then allowed set (object_of pointer) (offset_of pointer) 4 else true)
    by true = refl
    by false = refl

-- Targets -----------------------------------------------------------------------------------------------------------

-- a function has no bytes
abbrev pub IsBare : Object → Type 0
IsBare object = object.kind ≡ Function → object.bytes ≡ []

abbrev pub AreBare : Memory → Type 0
AreBare memory = AllByRecursion IsBare memory

abbrev IsBareThere : Option Object → Type 0
IsBareThere None = Unit {0}
IsBareThere (Some object) = IsBare object

bare_at : (memory : Memory) (k : ℕ) → AreBare memory → IsBareThere (slice_get memory k)
bare_at [] k h = tt
bare_at (object ∷ memory) zero h = h.0
bare_at (object ∷ memory) (suc k) h = bare_at memory k h.1

bare_object : (memory : Memory) (object : ℕ) → AreBare memory → IsBareThere (object_at memory object)
bare_object memory zero h = tt
bare_object memory (suc k) h = bare_at memory k h

-- no range of an int is inside a function
inside_same : (memory : Memory) (pointer : ℕ) → AreBare memory → denotes memory true pointer 4 ≡ is_inside memory pointer 4
inside_same memory pointer bare = by (object_at memory (object_of pointer)) (bare_object memory (object_of pointer) bare)
  where
    none : nat_le (offset_of pointer + 4) 0 ≡ false
    none = grind (arith, nat_tests)

    kinds : (kind : ObjKind) (live : Bool) (bytes : List ℕ) → (kind ≡ Function → bytes ≡ [])
        → ((live && is_no_function kind) && (live && nat_le (offset_of pointer + 4) (length bytes))) ≡ (live && nat_le (offset_of pointer + 4) (length bytes))
    kinds kind false bytes h = refl
    kinds Function true bytes h = sym (ap (λ l. nat_le (offset_of pointer + 4) (length l)) (h refl) ∙ none)
    kinds kind true bytes h = refl

    by : (o : Option Object) → IsBareThere o → (has_kind is_no_function o && holds_range o (offset_of pointer) 4) ≡ holds_range o (offset_of pointer) 4
    by None h = refl
    by (Some object) h = kinds object.kind object.live object.bytes h

-- sets with a range, where a target denotes it
abbrev with_denoted : Memory → PlainSets → ℕ → ℕ → ℕ → PlainSets
with_denoted memory sets tag pointer len = if denotes memory true pointer len then with_range (range_at tag pointer len) sets else sets

-- the range of an int at a place is added to the innermost set
pub ranged_same : (set : WriteSet) (outer : List WriteSet) (s : Now) (tag : ℕ) (q : ℤ) (pointer : ℕ)
    → s.sets ≡ plain_sets (set ∷ outer) → as_pointer q ≡ pointer → AreBare s.world.memory
    → ranged tag (Some (pos 1)) (Some q) (Some (pos 4)) s ≡ plain_sets (with_ranges (denoted tag s.world.memory true (Some pointer) (Some 4)) set ∷ outer)
ranged_same set outer s tag q pointer es eq bare =
    let memory = s.world.memory in
    ap (λ p. with_denoted memory s.sets tag p (as_length (pos 4))) eq
    ∙ ap (λ n. with_denoted memory s.sets tag pointer n) (as_length-pos 4 (omega arith))
    ∙ ap (λ sets. with_denoted memory sets tag pointer 4) es
    ∙ ap (λ b. if b then with_range (range_at tag pointer 4) (plain_sets (set ∷ outer)) else plain_sets (set ∷ outer)) (inside_same memory pointer bare)
    ∙ by (is_inside memory pointer 4)
  where
    with_all : List TaggedRange → PlainSets
    with_all ranges = record { sets = record { mark = set.mark; ranges = ranges; frees = []; start = 0 } ∷ map plain_set outer; freed = [] }

    by : (b : Bool) → (if b then with_range (range_at tag pointer 4) (plain_sets (set ∷ outer)) else plain_sets (set ∷ outer))
        ≡ plain_sets (with_ranges (if b then contract.range_at tag pointer 4 ∷ [] else []) set ∷ outer)
    by true = ap with_all (sym (map-append tagged set.ranges (contract.range_at tag pointer 4 ∷ [])))
    by false = ap (λ ranges. with_all (map tagged ranges)) (sym (append-nil set.ranges))
