-- The files that the words name.
use Rattle.std.specs.Prelude.{◌≡◌, ℕ, ◌≤◌, ◌<◌, ◌⊎◌, ◌↔◌, List, [], ◌∷◌, length, take, drop, Option, None, Some, Result, Ok, Err, slice_get, if◌then◌else◌, nat_eq}
use Rattle.std.specs.Option.{option_and_then}
use Rattle.std.specs.Cmp.Lexicographic.{pointwise}

-- files by their names
abbrev pub Files : Type 0
Files = List (List ℕ × List ℕ)

-- the first file of a name
abbrev pub file_of : Files → List ℕ → Option (List ℕ)
file_of [] name = None
file_of (file ∷ files) name = if pointwise nat_eq file.0 name then Some file.1 else file_of files name

-- the file that a word names
abbrev pub named_file : Files → List (List ℕ) → ℕ → Option (List ℕ)
named_file files words word = option_and_then (file_of files) (slice_get words word)

-- a word that may name a file
abbrev pub NamesFile : ℕ → Type 0
NamesFile word = (word ≡ 1) ⊎ (word ≡ 2)

-- there is a file, and it has more bytes than this
abbrev pub IsLonger : ℕ → Option (List ℕ) → Type 0
IsLonger limit None = ⊥
IsLonger limit (Some file) = limit < length file

-- a read at an offset gave the next k bytes, and none only at the end or without room
pub record ReadsAt (file : List ℕ) (from : ℕ) (into : List ℕ) (k : ℕ) : Type 0 where
  pub bytes : take k into ≡ take k (drop from file)
  pub within : k ≤ length (drop from file)
  pub none : (k ≡ 0) ↔ ((length file ≤ from) ⊎ (length into ≡ 0))

-- what a read gave of a file: a missing one is a fault
abbrev pub Reads : {E : Type 0} → Option (List ℕ) → ℕ → List ℕ → Result ℕ E → Type 0
Reads file from into (Err e) = Unit {0}
Reads None from into (Ok k) = ⊥
Reads (Some file) from into (Ok k) = ReadsAt file from into k
