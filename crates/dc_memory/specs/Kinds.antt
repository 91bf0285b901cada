-- The kinds of values in memory (C11 6.2.5, 6.2.6.2).
use Rattle.std.specs.Prelude.{ℕ, ◌-◌, ◌^◌, Bool, true, false, if◌then◌else◌, ℤ, pos, negsuc, ◌≤ℤ◌}
use Rattle.dc_memory.specs.declared.kind.MemKind.{MemKind}
use Rattle.dc_memory.specs.declared.kind.MemKind.TheVariants.{Bool as Truth, S8, U8, S16, U16, S32, U32, S64, U64, Ptr}

-- the width in bits
abbrev pub bits_of : MemKind → ℕ
bits_of Truth = 1
bits_of S8 = 8
bits_of U8 = 8
bits_of S16 = 16
bits_of U16 = 16
bits_of S32 = 32
bits_of U32 = 32
bits_of S64 = 64
bits_of U64 = 64
bits_of Ptr = 64

-- the size in bytes (C11 6.2.6.1); a `_Bool` takes a whole byte
abbrev pub size_of : MemKind → ℕ
size_of Truth = 1
size_of S8 = 1
size_of U8 = 1
size_of S16 = 2
size_of U16 = 2
size_of S32 = 4
size_of U32 = 4
size_of S64 = 8
size_of U64 = 8
size_of Ptr = 8

-- the signed kinds are in two's complement
abbrev pub is_signed : MemKind → Bool
is_signed S8 = true
is_signed S16 = true
is_signed S32 = true
is_signed S64 = true
is_signed _ = false

-- the least value
abbrev pub low_of : MemKind → ℤ
low_of k = if is_signed k then negsuc (2 ^ (bits_of k - 1) - 1) else pos 0

-- the greatest value
abbrev pub high_of : MemKind → ℤ
high_of k = if is_signed k then pos (2 ^ (bits_of k - 1) - 1) else pos (2 ^ bits_of k - 1)

-- the number is a value of the kind
pub record IsValue (k : MemKind) (z : ℤ) : Type 0 where
  pub above : low_of k ≤ℤ z
  pub below : z ≤ℤ high_of k
