-- The machine's lists seen from their ends.
use Rattle.std.proofs.Common.{◌≡◌, ℕ, zero, suc, ◌+◌, ◌<◌, ◌≤◌, List, [], ◌∷◌, ◌++◌, length, map, take, drop, get_or, reverse, refl, ap, sym, ◌∙◌, arith}
use Rattle.std.proofs.lemmas.List.{map-append, reverse-append, length-map, length-take-le}

-- the last of a list is the first from its end
pub from-end : {A B : Type 0} (f : A → B) (xs : List A) (x : A) → reverse (map f (xs ++ x ∷ [])) ≡ f x ∷ reverse (map f xs)
from-end f xs x = rw (map-append, reverse-append) refl

pub numbers-from-end : (xs : List ℕ) (x : ℕ) → reverse (xs ++ x ∷ []) ≡ x ∷ reverse xs
numbers-from-end xs x = reverse-append xs (x ∷ [])

-- the element at an index stands before the others
pub mapped-drop : {A B : Type 0} (f : A → B) (xs : List A) (i : ℕ) (x : A) → i < length xs → x ≡ get_or xs i x → map f (drop i xs) ≡ f x ∷ map f (drop (i + 1) xs)
mapped-drop f [] i x lt e = absurd (omega arith)
mapped-drop f (y ∷ ys) zero x lt e = let g : x ≡ y = e in rw g refl
mapped-drop f (y ∷ ys) (suc i) x lt e =
    let k : suc i + 1 ≡ suc (i + 1) = omega arith in
    rw k (mapped-drop f ys i x (omega arith) e)

-- and behind those before it
pub mapped-take : {A B : Type 0} (f : A → B) (xs : List A) (i : ℕ) (x : A) → i < length xs → x ≡ get_or xs i x → map f (take (i + 1) xs) ≡ map f (take i xs) ++ f x ∷ []
mapped-take f [] i x lt e = absurd (omega arith)
mapped-take f (y ∷ ys) zero x lt e = let g : x ≡ y = e in rw g refl
mapped-take f (y ∷ ys) (suc i) x lt e =
    let k : suc i + 1 ≡ suc (i + 1) = omega arith in
    rw k (ap (λ l. f y ∷ l) (mapped-take f ys i x (omega arith) e))

pub mapped-length : {A B C : Type 0} (f : A → B) (g : B → C) (xs : List A) (i : ℕ) → i < length xs → i ≡ length (map g (map f (take i xs)))
mapped-length f g xs i lt =
    let le : i ≤ length xs = omega arith in
    sym (length-map (map f (take i xs)) g ∙ length-map (take i xs) f ∙ length-take-le i xs le)

pub mapped-twice : {A B C : Type 0} (f : A → B) (g : B → C) (xs : List A) (i : ℕ) (x : A) → i < length xs → x ≡ get_or xs i x
    → map g (map f (take (i + 1) xs)) ≡ map g (map f (take i xs)) ++ g (f x) ∷ []
mapped-twice f g xs i x lt e = ap (map g) (mapped-take f xs i x lt e) ∙ map-append g (map f (take i xs)) (f x ∷ [])

-- nothing stands behind the last
pub nothing-behind : {A : Type 0} (i : ℕ) (xs : List A) → length xs ≤ i → drop i xs ≡ []
nothing-behind zero [] h = refl
nothing-behind zero (x ∷ xs) h = absurd (omega arith)
nothing-behind (suc i) [] h = refl
nothing-behind (suc i) (x ∷ xs) h = nothing-behind i xs (omega arith)
