-- Conversion to a kind (C11 6.3.1.2, 6.3.1.3).
use Rattle.std.specs.Prelude.{ℕ, ◌-◌, ◌^◌, ◌&&◌, Bool, true, false, if◌then◌else◌, nat_lt, ℤ, pos, negsuc, ◌-ℤ◌, not}
use Rattle.std.specs.Int.{int_rem_euclid}
use Rattle.std.specs.Ordering.{int_eq}
use Rattle.dc_memory.specs.declared.kind.MemKind.{MemKind}
use Rattle.dc_memory.specs.declared.kind.MemKind.TheVariants.{Bool as Truth}
use Rattle.dc_memory.specs.Kinds.{bits_of, is_signed}

-- a number that isn't negative, as a natural number
abbrev pub natural : ℤ → ℕ
natural (pos n) = n
natural (negsuc n) = 0

-- the bits of a number, as a natural number: its residue modulo 2 ^ bits
unfoldable pub bits : MemKind → ℤ → ℕ
bits k z = natural (int_rem_euclid z (pos (2 ^ bits_of k)))

-- the value that bits spell, in two's complement where the kind is signed
abbrev pub value_of_bits : MemKind → ℕ → ℤ
value_of_bits k n = if is_signed k && nat_lt (2 ^ (bits_of k - 1) - 1) n then pos n -ℤ pos (2 ^ bits_of k) else pos n

-- the truth of a test, as a number
abbrev pub truth : Bool → ℤ
truth true = pos 1
truth false = pos 0

-- to `_Bool` 0 where the number is 0, else 1; to another kind the value that is congruent modulo 2 ^ bits
unfoldable pub converted : MemKind → ℤ → ℤ
converted Truth z = truth (not (int_eq z (pos 0)))
converted k z = value_of_bits k (bits k z)
