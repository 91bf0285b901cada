-- What may be written and freed: the context of a call under a contract.
use Rattle.std.specs.Prelude.{ℕ, ◌+◌, Bool, false, ◌&&◌, ◌||◌, nat_le, nat_lt, nat_eq, List, [], ◌∷◌}

-- bytes of an object
pub record Range : Type 0 where
  pub object : ℕ
  pub from : ℕ
  pub len : ℕ

-- these ranges may be written and these objects freed; so may be the objects above the mark, which are new
pub record Context : Type 0 where
  pub mark : ℕ
  pub ranges : List Range
  pub frees : List ℕ

-- the range has all of these bytes
abbrev pub contains : Range → ℕ → ℕ → ℕ → Bool
contains range object from len =
    nat_eq range.object object && (nat_le range.from from && nat_le (from + len) (range.from + range.len))

-- some range has all of these bytes
abbrev pub some_contains : List Range → ℕ → ℕ → ℕ → Bool
some_contains [] object from len = false
some_contains (range ∷ ranges) object from len = contains range object from len || some_contains ranges object from len

-- the object is among these
abbrev pub is_among : ℕ → List ℕ → Bool
is_among object [] = false
is_among object (freed ∷ frees) = nat_eq freed object || is_among object frees

-- a write is allowed where one range contains it whole, or its object is above the mark
abbrev pub is_allowed : Context → ℕ → ℕ → ℕ → Bool
is_allowed context object from len = nat_lt context.mark object || some_contains context.ranges object from len

-- an object may be freed where the context names it, or where it is above the mark
abbrev pub is_freeable : Context → ℕ → Bool
is_freeable context object = nat_lt context.mark object || is_among object context.frees
