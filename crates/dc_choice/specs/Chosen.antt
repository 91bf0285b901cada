-- What a call of `next` does to a chooser.
use Rattle.std.specs.Prelude.{◌≡◌, ℕ, List, [], ◌∷◌, ◌++◌, Option, Some, None}
use Rattle.dc_text.specs.Counted.{raised}

-- a number was the first of those to come, and the rest is left; none came at their end, and it stays
abbrev pub TakesFirst : List ℕ → List ℕ → Option ℕ → Type 0
TakesFirst before after None = (before ≡ []) × (after ≡ [])
TakesFirst before after (Some number) = before ≡ number ∷ after

-- where the numbers to come are told, the first of them is taken; whether they are told doesn't change
abbrev pub Takes : Option (List ℕ) → Option (List ℕ) → Option ℕ → Type 0
Takes None None answer = Unit {0}
Takes (Some before) (Some after) answer = TakesFirst before after answer
Takes None (Some after) answer = ⊥
Takes (Some before) None answer = ⊥

-- a number raises the count of those given alone, and none raises the count of the dry calls alone
abbrev pub Counted : (given given' dry dry' : ℕ) → Option ℕ → Type 0
Counted given given' dry dry' None = (given' ≡ given) × (dry' ≡ raised dry 1)
Counted given given' dry dry' (Some number) = (given' ≡ raised given 1) × (dry' ≡ dry)

-- these numbers were taken in order, and the rest is left
abbrev pub Used : Option (List ℕ) → Option (List ℕ) → List ℕ → Type 0
Used None None numbers = Unit {0}
Used (Some before) (Some after) numbers = before ≡ numbers ++ after
Used None (Some after) numbers = ⊥
Used (Some before) None numbers = ⊥
