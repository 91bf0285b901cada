-- Tokens that are left to read.
use Rattle.std.specs.Prelude.{ℕ, List, [], ◌∷◌}

-- the token in front, or nothing
abbrev pub front : List (List ℕ) → List ℕ
front [] = []
front (token ∷ tokens) = token

-- what stands behind it
abbrev pub tail : List (List ℕ) → List (List ℕ)
tail [] = []
tail (token ∷ tokens) = tokens
