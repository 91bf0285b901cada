-- Conversions of numbers (C11 6.3.1).
use Rattle.std.specs.Prelude.{ℕ, ◌-◌, ◌^◌, ◌&&◌, Bool, true, false, if◌then◌else◌, nat_lt, nat_le, ℤ, pos, negsuc, ◌-ℤ◌, int_lt, not}
use Rattle.std.specs.Int.{int_rem_euclid}
use Rattle.std.specs.Ordering.{int_eq}
use Rattle.dc_num.specs.declared.kind.NumKind.{NumKind}
use Rattle.dc_num.specs.declared.kind.NumKind.TheVariants.{Bool as Truth, S8, U8, S16, U16, S32, U32, S64, U64, Ptr}
use Rattle.dc_num.specs.Kinds.{bits_of, is_signed, low_of, high_of}

-- the integer conversion rank (C11 6.3.1.1); a wider kind has a higher one
abbrev pub rank : NumKind → ℕ
rank = bits_of

-- does the first kind represent all values of the second?
abbrev pub represents : NumKind → NumKind → Bool
represents k of = not (int_lt (low_of of) (low_of k)) && not (int_lt (high_of k) (high_of of))

-- integer promotion (C11 6.3.1.1): to int where its rank is no less and it represents all values
abbrev pub promoted : NumKind → NumKind
promoted k = if nat_le (rank k) (rank S32) && represents S32 k then S32 else k

abbrev pub unsigned_of : NumKind → NumKind
unsigned_of S8 = U8
unsigned_of S16 = U16
unsigned_of S32 = U32
unsigned_of S64 = U64
unsigned_of k = k

abbrev pub higher : NumKind → NumKind → NumKind
higher a b = if nat_lt (rank a) (rank b) then b else a

-- of a signed and an unsigned kind: the unsigned one where its rank is no less; else the signed one where it represents all
-- values of the unsigned one; else the unsigned kind of the signed one
abbrev pub mixed : NumKind → NumKind → NumKind
mixed signed unsigned =
    if nat_le (rank signed) (rank unsigned) then unsigned
    else (if represents signed unsigned then signed else unsigned_of signed)

abbrev pub balanced : NumKind → NumKind → NumKind
balanced a b =
    if is_signed a
    then (if is_signed b then higher a b else mixed a b)
    else (if is_signed b then mixed b a else higher a b)

-- the usual arithmetic conversions (C11 6.3.1.8)
abbrev pub common_of : NumKind → NumKind → NumKind
common_of a b = balanced (promoted a) (promoted b)

abbrev pub natural : ℤ → ℕ
natural (pos n) = n
natural (negsuc n) = 0

-- the bits of a number, as a natural number: its residue modulo 2 ^ bits
unfoldable pub bits : NumKind → ℤ → ℕ
bits k z = natural (int_rem_euclid z (pos (2 ^ bits_of k)))

-- the value that bits spell, in two's complement where the kind is signed
abbrev pub value_of_bits : NumKind → ℕ → ℤ
value_of_bits k n = if is_signed k && nat_lt (2 ^ (bits_of k - 1) - 1) n then pos n -ℤ pos (2 ^ bits_of k) else pos n

abbrev pub truth : Bool → ℤ
truth true = pos 1
truth false = pos 0

-- conversion (C11 6.3.1.2, 6.3.1.3): to `_Bool` 0 or 1; to another kind the value that is congruent modulo 2 ^ bits
unfoldable pub converted : NumKind → ℤ → ℤ
converted Truth z = truth (not (int_eq z (pos 0)))
converted k z = value_of_bits k (bits k z)
