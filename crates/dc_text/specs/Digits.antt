-- How a decimal is read, digit by digit.
use Rattle.std.specs.Prelude.{ℕ, ◌+◌, ◌-◌, ◌*◌, ◌^◌, Bool, true, false, ◌&&◌, not, ◌==◌, nat_le, nat_lt, List, [], ◌∷◌, Option, None, Some, if◌then◌else◌}

abbrev pub is_digit : ℕ → Bool
is_digit b = nat_le 48 b && nat_le b 57

-- not empty, and no zero in front of other bytes
abbrev pub is_plain : List ℕ → Bool
is_plain [] = false
is_plain (b ∷ []) = true
is_plain (b ∷ next ∷ bytes) = not (b == 48)

-- the number of these digits behind those of another number, if it is below 2^64
abbrev pub number_from : ℕ → List ℕ → Option ℕ
number_from n [] = Some n
number_from n (b ∷ bytes) =
    if is_digit b && nat_lt (n * 10 + (b - 48)) (2 ^ 64) then number_from (n * 10 + (b - 48)) bytes else None

-- the number below 2^64 that the bytes spell
abbrev pub number_of : List ℕ → Option ℕ
number_of bytes = if is_plain bytes then number_from 0 bytes else None
