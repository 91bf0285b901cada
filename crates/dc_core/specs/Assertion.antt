-- The names of assertions.
use Rattle.std.specs.Prelude.{ℕ, List, ◌++◌, codes}
use Rattle.std.specs.Fmt.{decimal}

-- the write at a site of a function is allowed
abbrev pub assigns_name : List ℕ → ℕ → List ℕ
assigns_name function site = function ++ (codes ".assigns." ++ decimal site)

-- a clause of the ensures of a function holds, by its number from 1
abbrev pub postcondition_name : List ℕ → ℕ → List ℕ
postcondition_name function clause = function ++ (codes ".postcondition." ++ decimal clause)
