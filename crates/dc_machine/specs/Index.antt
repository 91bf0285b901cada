-- Where names stand in a list.
use Rattle.std.specs.Prelude.{ℕ, suc, List, [], ◌∷◌, ◌++◌, Option, None, Some, if◌then◌else◌}
use Rattle.dc_text.specs.Words.{same}

-- a name with its place behind the others, unless it has one
abbrev pub added : List ℕ → ℕ → Option ℕ → List (List ℕ × ℕ) → List (List ℕ × ℕ)
added name place None entries = entries ++ (name, place) ∷ []
added name place (Some k) entries = entries

-- the place of the first of the names that is this one, counted from a number on
abbrev pub first_place : ℕ → List (List ℕ) → List ℕ → Option ℕ
first_place k [] name = None
first_place k (n ∷ names) name = if same name n then Some k else first_place (suc k) names name
