-- The kinds of numbers and their values (C11 6.2.5, 6.2.6.2).
use Rattle.std.specs.Prelude.{ℕ, ◌-◌, ◌^◌, Bool, true, false, if◌then◌else◌, ℤ, pos, negsuc, ◌≤ℤ◌, int_lt, not, ◌&&◌}
use Rattle.dc_num.specs.declared.kind.NumKind.{NumKind}
use Rattle.dc_num.specs.declared.kind.NumKind.TheVariants.{Bool as Truth, S8, U8, S16, U16, S32, U32, S64, U64, Ptr}

-- the width in bits
abbrev pub bits_of : NumKind → ℕ
bits_of Truth = 1
bits_of S8 = 8
bits_of U8 = 8
bits_of S16 = 16
bits_of U16 = 16
bits_of S32 = 32
bits_of U32 = 32
bits_of S64 = 64
bits_of U64 = 64
bits_of Ptr = 64

-- the signed kinds are in two's complement
abbrev pub is_signed : NumKind → Bool
is_signed S8 = true
is_signed S16 = true
is_signed S32 = true
is_signed S64 = true
is_signed _ = false

-- the least and the greatest value
abbrev pub low_of : NumKind → ℤ
low_of k = if is_signed k then negsuc (2 ^ (bits_of k - 1) - 1) else pos 0

abbrev pub high_of : NumKind → ℤ
high_of k = if is_signed k then pos (2 ^ (bits_of k - 1) - 1) else pos (2 ^ bits_of k - 1)

pub record IsValue (k : NumKind) (z : ℤ) : Type 0 where
  pub above : low_of k ≤ℤ z
  pub below : z ≤ℤ high_of k

abbrev pub is_value : NumKind → ℤ → Bool
is_value k z = not (int_lt z (low_of k)) && not (int_lt (high_of k) z)

-- a pointer is no number of C's arithmetic
abbrev pub is_pointer : NumKind → Bool
is_pointer Ptr = true
is_pointer _ = false
