-- What a sink has been given.
use Rattle.std.specs.Prelude.{◌≡◌, ℕ, ◌==◌, ◌&&◌, not, Bool, true, List, [], ◌++◌, length, take, Option, Result, Ok, Err}
use Rattle.std.specs.Option.{option_map}

-- what a sink holds, where it tells it, has grown by these bytes
abbrev pub Adds : Option (List ℕ) → Option (List ℕ) → List ℕ → Type 0
Adds old new bytes = new ≡ option_map (λ held. held ++ bytes) old

-- what a sink holds, where it tells it, has grown by a prefix of these bytes
pub record AddsPrefix (old new : Option (List ℕ)) (bytes : List ℕ) : Type 0 where
  pub front : List ℕ
  pub rest : List ℕ
  pub whole : bytes ≡ front ++ rest
  pub added : Adds old new front

-- the bytes that one write took
abbrev pub taken : {E : Type 0} → Result ℕ E → List ℕ → List ℕ
taken (Ok k) piece = take k piece
taken (Err e) piece = []

-- a write that took nothing of a piece that isn't empty
abbrev pub is_refused : {E : Type 0} → Result ℕ E → List ℕ → Bool
is_refused (Ok k) piece = (k == 0) && not (length piece == 0)
is_refused (Err e) piece = true
