-- What is read and what is written; none where a range isn't wholly inside one live object.
use Rattle.std.specs.Prelude.{◌≡◌, ℕ, Bool, true, false, ◌&&◌, ℤ, replicate, Option, None, Some, if◌then◌else◌}
use Rattle.dc_memory.specs.declared.kind.MemKind.{MemKind}
use Rattle.dc_memory.specs.Kinds.{size_of}
use Rattle.dc_memory.specs.Objects.{Memory}
use Rattle.dc_memory.specs.Places.{is_inside, range_bytes, written}
use Rattle.dc_memory.specs.Encoding.{encoded, decoded}

-- the value of a kind at a place
unfoldable pub load : MemKind → ℕ → Memory → Option ℤ
load kind pointer memory =
    if is_inside memory pointer (size_of kind) then Some (decoded kind (range_bytes memory pointer (size_of kind))) else None

-- the memory with a number, converted to the kind, at a place
unfoldable pub store : MemKind → ℕ → ℤ → Memory → Option Memory
store kind pointer z memory =
    if is_inside memory pointer (size_of kind) then Some (written pointer (encoded kind z) memory) else None

-- the memory with the bytes of one range in another; both are seen as they were before, so that they may overlap
unfoldable pub copied : (to from len : ℕ) → Memory → Option Memory
copied to from len memory =
    if is_inside memory to len && is_inside memory from len then Some (written to (range_bytes memory from len) memory) else None

-- the memory with a range of one byte
unfoldable pub filled : (to byte len : ℕ) → Memory → Option Memory
filled to byte len memory =
    if is_inside memory to len then Some (written to (replicate len byte) memory) else None

-- what a write answers: the memory is the written one; or there is none, and it stays as it was
abbrev pub IsWritten : Bool → Option Memory → Memory → Memory → Type 0
IsWritten true after old new = after ≡ Some new
IsWritten false after old new = (after ≡ None) × (new ≡ old)
