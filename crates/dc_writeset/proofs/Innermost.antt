-- The innermost set, which the code keeps as the last one.
use Rattle.std.proofs.Common.{◌≡◌, ℕ, ◌-◌, List, [], ◌∷◌, ◌++◌, length, reverse, set, get_or, refl, ap, ◌∙◌, arith, length-append}
use Rattle.std.proofs.lemmas.List.{reverse-append, reverse-reverse}
use Rattle.std.proofs.Math.Seq.{set-append_seam, get_or-append_seam}
use Rattle.dc_writeset.specs.Sets.{PlainSet, PlainSets, inner_changed}

reverse-set_end : (change : PlainSet → PlainSet) (xs : List PlainSet) (i : ℕ) (y g x : PlainSet) → i ≡ length xs → g ≡ get_or (xs ++ y ∷ []) i g → x ≡ change g
    → reverse (set (xs ++ y ∷ []) i x) ≡ change y ∷ reverse xs
reverse-set_end change xs i y g x last is e =
    let same : g ≡ y = rw last at is ∙ get_or-append_seam xs y [] g in
    rw (last, set-append_seam xs y [] x) (reverse-append xs (x ∷ []) ∙ ap (λ z. z ∷ reverse xs) (e ∙ ap change same))

reversed-set : (change : PlainSet → PlainSet) (ys : List PlainSet) (i : ℕ) (g x : PlainSet) → i ≡ length (reverse ys) - 1 → g ≡ get_or (reverse ys) i g → x ≡ change g
    → reverse (set (reverse ys) i x) ≡ inner_changed change ys
reversed-set change [] i g x last is e = refl
reversed-set change (y ∷ ys) i g x last is e =
    let ends : reverse (y ∷ ys) ≡ reverse ys ++ y ∷ [] = reverse-append (y ∷ []) ys in
    let at : i ≡ length (reverse ys) = omega (arith, rw ends at last, length-append (reverse ys) (y ∷ [])) in
    rw ends (reverse-set_end change (reverse ys) i y g x at (rw ends at is) e ∙ ap (λ zs. change y ∷ zs) (reverse-reverse ys))

reverse-set : (change : PlainSet → PlainSet) (xs : List PlainSet) (i : ℕ) (g x : PlainSet) → i ≡ length xs - 1 → g ≡ get_or xs i g → x ≡ change g
    → reverse (set xs i x) ≡ inner_changed change (reverse xs)
reverse-set change xs i g x last is e =
    let back = reverse-reverse xs in
    rw back at (reversed-set change (reverse xs) i g x (rw back last) (rw back is) e)

abbrev seen : List ℕ → List PlainSet → PlainSets
seen freed sets = record { sets = sets; freed = freed }

-- all is seen as before, but for the innermost set
pub sets-inner_changed : (change : PlainSet → PlainSet) (s : PlainSets) (xs : List PlainSet) (freed : List ℕ) (n : ℕ) (g x : PlainSet) → record { sets = reverse xs; freed = freed } ≡ s
    → n ≡ length xs → g ≡ get_or xs (n - 1) g → x ≡ change g → record { sets = reverse (set xs (n - 1) x); freed = freed } ≡ record s { sets = inner_changed change s.sets }
sets-inner_changed change s xs freed n g x same count is e =
    rw (← same) (ap (seen freed) (reverse-set change xs (n - 1) g x (ap (λ k. k - 1) count) is e))
