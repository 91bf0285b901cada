-- Places: pointers as numbers, and ranges of bytes.
use Rattle.std.specs.Prelude.{◌≢◌, ℕ, zero, suc, ◌+◌, ◌*◌, ◌/◌, ◌%◌, ◌^◌, Bool, false, ◌≤◌, ◌⊎◌, ◌&&◌, nat_le, List, [], ◌∷◌, length, take, drop, Option, None, Some}
use Rattle.dc_memory.specs.declared.object.Object.{Object}
use Rattle.dc_memory.specs.Objects.{Memory, object_at, changed}

-- the pointer to the start of an object
unfoldable pub start_of : ℕ → ℕ
start_of object = object * 2 ^ 48

-- the number of the object that a pointer points into
unfoldable pub object_of : ℕ → ℕ
object_of pointer = pointer / 2 ^ 48

-- the offset in its object that a pointer has
unfoldable pub offset_of : ℕ → ℕ
offset_of pointer = pointer % 2 ^ 48

-- it is there and live, and has so many bytes from an index on
abbrev pub holds_range : Option Object → ℕ → ℕ → Bool
holds_range None from len = false
holds_range (Some object) from len = object.live && nat_le (from + len) (length object.bytes)

-- the range is wholly inside one live object; an empty range too needs one, and begins at its end at most
abbrev pub is_inside : Memory → ℕ → ℕ → Bool
is_inside memory pointer len = holds_range (object_at memory (object_of pointer)) (offset_of pointer) len

-- so many bytes of an object from an index on
abbrev pub bytes_at : Option Object → ℕ → ℕ → List ℕ
bytes_at None from len = []
bytes_at (Some object) from len = take len (drop from object.bytes)

-- the bytes of a range
abbrev pub range_bytes : Memory → ℕ → ℕ → List ℕ
range_bytes memory pointer len = bytes_at (object_at memory (object_of pointer)) (offset_of pointer) len

-- values in place of others from an index on; those that don't fit are left away
abbrev pub put_at : ℕ → List ℕ → List ℕ → List ℕ
put_at from values [] = []
put_at (suc from) values (x ∷ xs) = x ∷ put_at from values xs
put_at zero [] (x ∷ xs) = x ∷ xs
put_at zero (v ∷ values) (x ∷ xs) = v ∷ put_at zero values xs

-- an object with other bytes from an index on
abbrev pub with_bytes : ℕ → List ℕ → Object → Object
with_bytes from values object = record object { bytes = put_at from values object.bytes }

-- the memory with these bytes at a place
abbrev pub written : ℕ → List ℕ → Memory → Memory
written pointer values memory = changed (object_of pointer) (with_bytes (offset_of pointer) values) memory

-- two ranges have no byte in common
abbrev pub IsApart : ℕ → ℕ → ℕ → ℕ → Type 0
IsApart to count from len =
    (object_of to ≢ object_of from) ⊎ ((offset_of from + len ≤ offset_of to) ⊎ (offset_of to + count ≤ offset_of from))
