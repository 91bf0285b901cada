-- What it comes to that expressions are asked in turn, by the state before and the state behind.
use Rattle.std.specs.Prelude.{◌≡◌, ℕ, ℤ, List, Option, Some, map, option_map}
use Rattle.dc_core.specs.Term.{Term}
use Rattle.dc_goto.specs.Acts.{Now, Then, asked, defined, given, all_given}

abbrev pub IsAsked : Term → Option ℤ → (old new : List ℕ → Now) → Type 0
IsAsked a v old new = (choices : List ℕ) (go : Option ℤ → Now → Then) → asked (old choices) a go ≡ go v (new choices)

abbrev pub AreAsked : (a b : Term) (v w : Option ℤ) (old new : List ℕ → Now) → Type 0
AreAsked a b v w old new =
    (choices : List ℕ) (go : Option ℤ → Option ℤ → Now → Then) → asked (old choices) a (λ x s. asked s b (λ y t. go x y t)) ≡ go v w (new choices)

abbrev pub AreAskedThree : (a b c : Term) (v w x : Option ℤ) (old new : List ℕ → Now) → Type 0
AreAskedThree a b c v w x old new =
    (choices : List ℕ) (go : Option ℤ → Option ℤ → Option ℤ → Now → Then) →
    asked (old choices) a (λ y s. asked s b (λ z t. asked t c (λ n u. go y z n u))) ≡ go v w x (new choices)

abbrev pub AreGivenTwo : (a b : Term) → Option (ℤ × ℤ) → (old new : List ℕ → Now) → Type 0
AreGivenTwo a b o old new =
    (name choices : List ℕ) (go : ℤ → ℤ → Now → Then) →
    given name (old choices) a (λ x s. given name s b (λ y t. go x y t)) ≡ defined name o (new choices) (λ v. go v.0 v.1 (new choices))

abbrev pub AreGivenThree : (a b c : Term) → Option (ℤ × ℤ × ℤ) → (old new : List ℕ → Now) → Type 0
AreGivenThree a b c o old new =
    (name choices : List ℕ) (go : ℤ → ℤ → ℤ → Now → Then) →
    given name (old choices) a (λ x s. given name s b (λ y t. given name t c (λ z u. go x y z u)))
    ≡ defined name o (new choices) (λ v. go v.0 v.1 v.2 (new choices))

-- the values stand as registers hold them
pub record AreAllGiven (all : List Term) (held : Option (List (Option ℤ))) (old new : List ℕ → Now) : Type 0 where
  pub values : Option (List ℤ)
  pub same : held ≡ option_map (map Some) values
  pub come : (name choices : List ℕ) (go : List ℤ → Now → Then) → all_given name (old choices) all go ≡ defined name values (new choices) (λ vs. go vs (new choices))
