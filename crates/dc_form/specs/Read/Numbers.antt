-- Numbers in decimal.
use Rattle.std.specs.Prelude.{ℕ, nat_le, List, Option, None, Some, if◌then◌else◌}
use Rattle.dc_text.specs.Digits.{number_of as decimal_of}

-- a number up to 2147483647
abbrev pub small : Option ℕ → Option ℕ
small None = None
small (Some n) = if nat_le n 2147483647 then Some n else None

-- the number of a decimal from 0 to 2147483647
abbrev pub number_of : List ℕ → Option ℕ
number_of bytes = small (decimal_of bytes)
