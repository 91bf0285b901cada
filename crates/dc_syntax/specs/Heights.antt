-- Heights as a u64 holds them.
use Rattle.std.specs.Prelude.{ℕ, List, [], ◌∷◌, min, max}

-- the greatest number of 64 bits where a height is greater
unfoldable pub capped : ℕ → ℕ
capped n = min n 18446744073709551615

-- the greatest height in a list, 0 where it is empty
abbrev pub greatest : {A : Type 0} → (A → ℕ) → List A → ℕ
greatest h [] = 0
greatest h (a ∷ rest) = max (h a) (greatest h rest)
