-- Values as bytes (C11 6.2.6.1): little-endian, and two's complement.
use Rattle.std.specs.Prelude.{ℕ, zero, suc, ◌+◌, ◌*◌, ◌/◌, ◌%◌, ℤ, pos, List, [], ◌∷◌}
use Rattle.dc_memory.specs.declared.kind.MemKind.{MemKind}
use Rattle.dc_memory.specs.Kinds.{size_of}
use Rattle.dc_memory.specs.Conversions.{bits, converted}

-- the last so many bytes of a number, the lowest first
abbrev pub bytes_of : ℕ → ℕ → List ℕ
bytes_of zero n = []
bytes_of (suc k) n = n % 256 ∷ bytes_of k (n / 256)

-- the number that bytes spell, the lowest first
abbrev pub number_of : List ℕ → ℕ
number_of [] = 0
number_of (byte ∷ bytes) = byte + 256 * number_of bytes

-- the bytes of the value that a number is converted to
abbrev pub encoded : MemKind → ℤ → List ℕ
encoded kind z = bytes_of (size_of kind) (bits kind (converted kind z))

-- the value that bytes spell; a `_Bool` is 1 where its byte isn't 0
abbrev pub decoded : MemKind → List ℕ → ℤ
decoded kind bytes = converted kind (pos (number_of bytes))
