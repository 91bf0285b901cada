-- Sets of what may be written and freed, one within the other, and the objects that were freed (contracts manual).
use Rattle.std.specs.Prelude.{ℕ, Bool, true, false, ◌&&◌, ◌||◌, not, nat_eq, nat_le, List, [], ◌∷◌, ◌++◌, length, drop, map, Option, None, Some}
use Rattle.std.specs.List.{list_all}
use Rattle.dc_memory.specs.Context.{Range, Context, is_allowed, is_freeable, is_among}

-- bytes of an object that may be written, with the number of the target that denoted them
pub record TaggedRange : Type 0 where
  pub tag : ℕ
  pub range : Range

-- an object that may be freed, with the number of the target that denoted it
pub record TaggedObject : Type 0 where
  pub tag : ℕ
  pub object : ℕ

-- a set: how many objects there were when it was made, what it names, and how many objects had been freed when it was made
pub record PlainSet : Type 0 where
  pub mark : ℕ
  pub ranges : List TaggedRange
  pub frees : List TaggedObject
  pub start : ℕ

-- the sets, the innermost first, and all objects that were freed so far, in order
pub record PlainSets : Type 0 where
  pub sets : List PlainSet
  pub freed : List ℕ

-- no sets, and nothing freed
abbrev pub no_sets : PlainSets
no_sets = record { sets = []; freed = [] }

-- a set that names nothing
abbrev pub empty_set : (mark start : ℕ) → PlainSet
empty_set mark start = record { mark = mark; ranges = []; frees = []; start = start }

-- a new innermost set; it starts behind what was freed so far
abbrev pub pushed : ℕ → PlainSets → PlainSets
pushed mark s = record s { sets = empty_set mark (length s.freed) ∷ s.sets }

-- the sets around the innermost one
abbrev pub around : List PlainSet → List PlainSet
around [] = []
around (set ∷ sets) = sets

-- the innermost set is away, and what was freed stays
abbrev pub popped : PlainSets → PlainSets
popped s = record s { sets = around s.sets }

-- the innermost set is changed
abbrev pub inner_changed : (PlainSet → PlainSet) → List PlainSet → List PlainSet
inner_changed change [] = []
inner_changed change (set ∷ sets) = change set ∷ sets

-- a set with a range behind its others
abbrev pub set_with_range : TaggedRange → PlainSet → PlainSet
set_with_range range set = record set { ranges = set.ranges ++ range ∷ [] }

-- a set with an object behind its others
abbrev pub set_with_free : TaggedObject → PlainSet → PlainSet
set_with_free object set = record set { frees = set.frees ++ object ∷ [] }

-- the innermost set has one more range
abbrev pub with_range : TaggedRange → PlainSets → PlainSets
with_range range s = record s { sets = inner_changed (set_with_range range) s.sets }

-- the innermost set has one more object
abbrev pub with_free : TaggedObject → PlainSets → PlainSets
with_free object s = record s { sets = inner_changed (set_with_free object) s.sets }

-- one more object was freed
abbrev pub with_freed : ℕ → PlainSets → PlainSets
with_freed object s = record s { freed = s.freed ++ object ∷ [] }

-- the context of a set: what it names without tags, under its mark
abbrev pub context_of : PlainSet → Context
context_of set = record { mark = set.mark; ranges = map (λ r. r.range) set.ranges; frees = map (λ f. f.object) set.frees }

-- the innermost set
abbrev pub innermost : List PlainSet → Option PlainSet
innermost [] = None
innermost (set ∷ sets) = Some set

-- the set's context allows a write; where there is no set, nothing is allowed
abbrev pub is_write_allowed : Option PlainSet → (object from len : ℕ) → Bool
is_write_allowed None object from len = false
is_write_allowed (Some set) object from len = is_allowed (context_of set) object from len

-- the set's context allows to free an object; where there is no set, nothing is allowed
abbrev pub is_free_allowed : Option PlainSet → ℕ → Bool
is_free_allowed None object = false
is_free_allowed (Some set) object = is_freeable (context_of set) object

-- a range has another tag, or the next set allows to write it
abbrev pub is_range_below : Option PlainSet → ℕ → TaggedRange → Bool
is_range_below next tag r = not (nat_eq r.tag tag) || is_write_allowed next r.range.object r.range.from r.range.len

-- an object has another tag, or the next set allows to free it
abbrev pub is_object_below : Option PlainSet → ℕ → TaggedObject → Bool
is_object_below next tag f = not (nat_eq f.tag tag) || is_free_allowed next f.object

-- whatever has the tag in the innermost set is allowed by the next one
abbrev pub is_inside_below : List PlainSet → ℕ → Bool
is_inside_below [] tag = true
is_inside_below (set ∷ sets) tag =
    list_all (is_range_below (innermost sets) tag) set.ranges && list_all (is_object_below (innermost sets) tag) set.frees

-- an object that is at most the set's mark is among those that were freed since its start
abbrev pub is_freed_since : Option PlainSet → List ℕ → ℕ → Bool
is_freed_since None freed object = false
is_freed_since (Some set) freed object = nat_le object set.mark && is_among object (drop set.start freed)

-- the ranges of a set; none where there is no set
abbrev pub ranges_of : Option PlainSet → List TaggedRange
ranges_of None = []
ranges_of (Some set) = set.ranges

-- the objects of a set; none where there is no set
abbrev pub frees_of : Option PlainSet → List TaggedObject
frees_of None = []
frees_of (Some set) = set.frees

-- the object, the first byte and the length of a range
abbrev pub parts_of : TaggedRange → ℕ × ℕ × ℕ
parts_of r = (r.range.object, r.range.from, r.range.len)
