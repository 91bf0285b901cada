-- Lists that are filled up to a length.
use Rattle.std.proofs.Common.{◌≡◌, ℕ, zero, suc, ◌+◌, ◌-◌, ◌<◌, ◌≤◌, List, [], ◌∷◌, ◌++◌, length, replicate, refl, ap, sym, ◌∙◌, arith, append_assoc}
use Rattle.std.specs.Prelude.{slice_set, take}
use Rattle.std.proofs.lemmas.List.{replicate-append-replicate, length-append, length-replicate, take_all}
use Rattle.dc_goto.proofs.Registers.{set-here, length-set}

module _ {A : Type 0} (z : A) where
  -- up to a length
  abbrev pub padded : ℕ → List A → List A
  padded count xs = xs ++ replicate (count - length xs) z

  set-front : (xs ys : List A) (n : ℕ) (x : A) → n < length xs → slice_set (xs ++ ys) n x ≡ slice_set xs n x ++ ys
  set-front [] ys n x h = absurd (omega arith)
  set-front (y ∷ xs) ys zero x h = refl
  set-front (y ∷ xs) ys (suc n) x h = ap (λ l. y ∷ l) (set-front xs ys n x (omega arith))

  pub padded-set : (xs : List A) (count n : ℕ) (x : A) → n < length xs → padded count (slice_set xs n x) ≡ slice_set (padded count xs) n x
  padded-set xs count n x h = ap (λ k. slice_set xs n x ++ replicate (count - k) z) (length-set xs n x) ∙ sym (set-front xs (replicate (count - length xs) z) n x h)

  split : (count n l : ℕ) → l ≤ n → n < count → replicate (count - l) z ≡ replicate (n - l) z ++ z ∷ replicate (count - suc n) z
  split count n l h k =
      let sum : count - l ≡ (n - l) + suc (count - suc n) = omega arith in
      ap (λ m. replicate m z) sum ∙ sym (replicate-append-replicate (n - l) (suc (count - suc n)) z)

  -- one that is set behind the others
  pub padded-grown : (xs ys : List A) (count n : ℕ) (x : A) → length xs ≤ n → n < count → ys ≡ (take n xs ++ replicate (n - length xs) z) ++ x ∷ [] → padded count ys ≡ slice_set (padded count xs) n x
  padded-grown xs ys count n x h k e =
      let front = xs ++ replicate (n - length xs) z in
      let long : length front ≡ n = length-append xs (replicate (n - length xs) z) ∙ ap (λ m. length xs + m) (length-replicate (n - length xs) z) ∙ (omega arith) in
      let is : ys ≡ front ++ x ∷ [] = e ∙ ap (λ l. (l ++ replicate (n - length xs) z) ++ x ∷ []) (take_all n xs h) in
      let one : length ys ≡ suc n = ap length is ∙ length-append front (x ∷ []) ∙ (omega arith) in
      ap (λ m. ys ++ replicate (count - m) z) one
      ∙ ap (λ l. l ++ replicate (count - suc n) z) is
      ∙ append_assoc front (x ∷ []) (replicate (count - suc n) z)
      ∙ sym (set-here front z x (replicate (count - suc n) z) n long)
      ∙ ap (λ l. slice_set l n x) (append_assoc xs (replicate (n - length xs) z) (z ∷ replicate (count - suc n) z))
      ∙ ap (λ l. slice_set (xs ++ l) n x) (sym (split count n (length xs) h k))
