-- Clauses, write sets, and the judgement of writes.
use Rattle.std.specs.Prelude.{ℕ, suc, ◌+◌, Bool, true, false, ◌&&◌, ◌||◌, not, nat_le, nat_lt, nat_eq, ℤ, pos, List, [], ◌∷◌, ◌++◌, length, Option, None, Some, if◌then◌else◌}
use Rattle.std.specs.Ordering.{int_eq}
use Rattle.dc_core.specs.Assertion.{assigns_name}
use Rattle.dc_memory.specs.Objects.{Memory}
use Rattle.dc_memory.specs.Places.{is_inside, object_of, offset_of}
use Rattle.dc_core.specs.Program.{Expr}
use Rattle.dc_core.specs.Value.{Scope, value, place}

-- a test holds where it has a value that isn't 0
abbrev pub holds : Option ℤ → Bool
holds None = false
holds (Some z) = not (int_eq z (pos 0))

-- a conjunction of clauses
abbrev pub all_hold : Scope → Memory → List Expr → Bool
all_hold scope memory [] = true
all_hold scope memory (e ∷ clauses) = holds (value scope memory e) && all_hold scope memory clauses

-- what a target denotes: bytes of an object, with the target's number
pub record Range : Type 0 where
  pub tag : ℕ
  pub object : ℕ
  pub from : ℕ
  pub len : ℕ

-- what may be written: these ranges, and the objects above the mark
pub record WriteSet : Type 0 where
  pub mark : ℕ
  pub ranges : List Range

-- a set is made with the number of objects of this moment as its mark
abbrev pub new_set : Memory → WriteSet
new_set memory = record { mark = length memory; ranges = [] }

abbrev pub with_ranges : List Range → WriteSet → WriteSet
with_ranges more set = record set { ranges = set.ranges ++ more }

abbrev pub range_at : ℕ → ℕ → ℕ → Range
range_at tag pointer len = record { tag = tag; object = object_of pointer; from = offset_of pointer; len = len }

-- a target denotes nothing where its condition doesn't hold, its place or length has no value, or its range is empty
-- or isn't wholly inside a live object (a function holds no bytes)
abbrev pub denoted : ℕ → Memory → Bool → Option ℕ → Option ℕ → List Range
denoted tag memory test None len = []
denoted tag memory test (Some pointer) None = []
denoted tag memory test (Some pointer) (Some len) =
    if test && (nat_lt 0 len && is_inside memory pointer len) then range_at tag pointer len ∷ [] else []

-- the ranges of int targets, from this number on
abbrev pub ranges_of : ℕ → Scope → Memory → List Expr → List Range
ranges_of tag scope memory [] = []
ranges_of tag scope memory (target ∷ targets) =
    denoted tag memory true (place scope target) (Some 4) ++ ranges_of (suc tag) scope memory targets

-- the set of a function's call
abbrev pub set_of : List Expr → Scope → Memory → WriteSet
set_of targets scope memory = record { mark = length memory; ranges = ranges_of 1 scope memory targets }

abbrev pub contains : Range → ℕ → ℕ → ℕ → Bool
contains range object from len =
    nat_eq range.object object && (nat_le range.from from && nat_le (from + len) (range.from + range.len))

abbrev pub some_contains : List Range → ℕ → ℕ → ℕ → Bool
some_contains [] object from len = false
some_contains (range ∷ ranges) object from len = contains range object from len || some_contains ranges object from len

-- a write is allowed where one range contains it whole, or its object is above the mark
abbrev pub allowed : WriteSet → ℕ → ℕ → ℕ → Bool
allowed set object from len = nat_lt set.mark object || some_contains set.ranges object from len

-- an act that is judged: a write at a site of a function
pub data Act : Type 0 where
  Wrote : (function : List ℕ) (site object from len : ℕ) → Act

-- a name fails unless its test holds
abbrev pub claimed : List ℕ → Bool → List (List ℕ)
claimed name true = []
claimed name false = name ∷ []

-- the names that an act fails
abbrev pub judged : WriteSet → Act → List (List ℕ)
judged set (Wrote function site object from len) =
    claimed (assigns_name function site) (allowed set object from len)
