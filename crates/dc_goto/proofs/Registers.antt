-- Registers as lists.
use Rattle.std.proofs.Common.{◌≡◌, ℕ, zero, suc, ◌+◌, ◌<◌, true, List, [], ◌∷◌, ◌++◌, length, Some, refl, ap, arith}
use Rattle.std.proofs.lemmas.Bool.{eq-eqb}
use Rattle.std.specs.Prelude.{slice_get, slice_set, replicate, map, nat_eq}
use Rattle.std.specs.Option.{option_map}
use Rattle.std.specs.Cmp.Lexicographic.{pointwise}

module _ {A : Type 0} where
  pub get-here : (xs : List A) (x : A) (ys : List A) (n : ℕ) → length xs ≡ n → slice_get (xs ++ x ∷ ys) n ≡ Some x
  get-here [] x ys zero e = refl
  get-here [] x ys (suc n) e = absurd (omega arith)
  get-here (z ∷ xs) x ys zero e = absurd (omega arith)
  get-here (z ∷ xs) x ys (suc n) e = get-here xs x ys n (omega arith)

  pub set-here : (xs : List A) (x y : A) (ys : List A) (n : ℕ) → length xs ≡ n → slice_set (xs ++ x ∷ ys) n y ≡ xs ++ y ∷ ys
  set-here [] x y ys zero e = refl
  set-here [] x y ys (suc n) e = absurd (omega arith)
  set-here (z ∷ xs) x y ys zero e = absurd (omega arith)
  set-here (z ∷ xs) x y ys (suc n) e = ap (λ l. z ∷ l) (set-here xs x y ys n (omega arith))

  pub get-front : (xs ys : List A) (k : ℕ) → k < length xs → slice_get (xs ++ ys) k ≡ slice_get xs k
  get-front [] ys k h = absurd (omega arith)
  get-front (x ∷ xs) ys zero h = refl
  get-front (x ∷ xs) ys (suc k) h = get-front xs ys k (omega arith)

  pub get-back : (xs ys : List A) (k n : ℕ) → n ≡ length xs + k → slice_get (xs ++ ys) n ≡ slice_get ys k
  get-back [] ys k n e = let f : n ≡ k = omega arith in ap (slice_get ys) f
  get-back (x ∷ xs) ys k zero e = absurd (omega arith)
  get-back (x ∷ xs) ys k (suc n) e = get-back xs ys k n (omega arith)

  pub get-set-other : (xs : List A) (r k : ℕ) (x : A) → k < r → slice_get (slice_set xs r x) k ≡ slice_get xs k
  get-set-other [] r k x h = refl
  get-set-other (y ∷ xs) zero k x h = absurd (omega arith)
  get-set-other (y ∷ xs) (suc r) zero x h = refl
  get-set-other (y ∷ xs) (suc r) (suc k) x h = get-set-other xs r k x (omega arith)

  pub get-set-same : (xs : List A) (r : ℕ) (x : A) → r < length xs → slice_get (slice_set xs r x) r ≡ Some x
  get-set-same [] r x h = absurd (omega arith)
  get-set-same (y ∷ xs) zero x h = refl
  get-set-same (y ∷ xs) (suc r) x h = get-set-same xs r x (omega arith)

  pub length-set : (xs : List A) (r : ℕ) (x : A) → length (slice_set xs r x) ≡ length xs
  length-set [] r x = refl
  length-set (y ∷ xs) zero x = refl
  length-set (y ∷ xs) (suc r) x = ap suc (length-set xs r x)

  pub get-there : (xs : List A) (k : ℕ) → k < length xs → (x : A) × (slice_get xs k ≡ Some x)
  get-there [] k h = absurd (omega arith)
  get-there (x ∷ xs) zero h = (x, refl)
  get-there (x ∷ xs) (suc k) h = get-there xs k (omega arith)

  pub length-replicate : (n : ℕ) (x : A) → length (replicate n x) ≡ n
  length-replicate zero x = refl
  length-replicate (suc n) x = ap suc (length-replicate n x)

pub get-map : {A B : Type 0} (f : A → B) (xs : List A) (k : ℕ) → slice_get (map f xs) k ≡ option_map f (slice_get xs k)
get-map f [] k = refl
get-map f (x ∷ xs) zero = refl
get-map f (x ∷ xs) (suc k) = get-map f xs k

pub length-map : {A B : Type 0} (f : A → B) (xs : List A) → length (map f xs) ≡ length xs
length-map f [] = refl
length-map f (x ∷ xs) = ap suc (length-map f xs)

pub map-append : {A B : Type 0} (f : A → B) (xs ys : List A) → map f (xs ++ ys) ≡ map f xs ++ map f ys
map-append f [] ys = refl
map-append f (x ∷ xs) ys = ap (λ l. f x ∷ l) (map-append f xs ys)

-- a name is itself
pub pointwise-refl : (xs : List ℕ) → pointwise nat_eq xs xs ≡ true
pointwise-refl [] = refl
pointwise-refl (x ∷ xs) = rw (eq-eqb x x refl) (pointwise-refl xs)
