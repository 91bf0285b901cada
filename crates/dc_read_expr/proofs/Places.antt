-- The place of the tokens between two places of a slice.
use Rattle.std.proofs.Common.{◌≡◌, ℕ, zero, suc, ◌-◌, ◌<◌, ◌≤◌, List, [], ◌∷◌, length, take, drop, slice_index_or, refl, sym, ap, ◌∙◌, arith, length-drop}
use Rattle.dc_syntax.specs.Tokens.{Token, Place, place_of, last_number}
use Rattle.dc_syntax.specs.Reading.{between}

abbrev place_by : Token → Token → Place
place_by last first = record { last = last.number; line = first.line }

last_is : (t : Token) (ts : List Token) (m : ℕ) (d : Token) → m ≤ length ts → (slice_index_or (t ∷ ts) m d).number ≡ last_number t (take m ts)
last_is t ts zero d le = refl
last_is t [] (suc m) d le = absurd (omega (arith, le))
last_is t (u ∷ ts) (suc m) d le = last_is u ts m d (omega (arith, le))

front_place : (ts : List Token) (n : ℕ) (d : Token) → 0 < n → n ≤ length ts → place_by (slice_index_or ts (n - 1) d) (slice_index_or ts 0 d) ≡ place_of (take n ts)
front_place [] n d lt le = absurd (omega (arith, lt, le))
front_place (t ∷ ts) zero d lt le = absurd (omega (arith, lt))
front_place (t ∷ ts) (suc m) d lt le =
    let e : suc m - 1 ≡ m = omega arith in
    ap (λ k. place_by (slice_index_or (t ∷ ts) k d) t) e ∙ ap (λ n. same n t) (last_is t ts m d (omega (arith, le)))
  where
    same : ℕ → Token → Place
    same n t = record { last = n; line = t.line }

pub place_is : (ts : List Token) (from to : ℕ) (d : Token) → from < to → to ≤ length ts
    → place_by (slice_index_or ts (to - 1) d) (slice_index_or ts from d) ≡ between (drop from ts) (drop to ts)
place_is ts zero to d lt le =
    let n : length ts - length (drop to ts) ≡ to = omega (arith, length-drop to ts, le) in
    front_place ts to d lt le ∙ ap (λ n. place_of (take n ts)) (sym n)
place_is [] (suc from) to d lt le = absurd (omega (arith, lt, le))
place_is (t ∷ ts) (suc from) zero d lt le = absurd (omega (arith, lt))
place_is (t ∷ ts) (suc from) (suc to) d lt le = before to (omega (arith, lt)) (place_is ts from to d (omega (arith, lt)) (omega (arith, le)))
  where
    before : (to : ℕ) → from < to → place_by (slice_index_or ts (to - 1) d) (slice_index_or ts from d) ≡ between (drop from ts) (drop to ts)
        → place_by (slice_index_or (t ∷ ts) (suc to - 1) d) (slice_index_or ts from d) ≡ between (drop from ts) (drop to ts)
    before zero lt e = absurd (omega (arith, lt))
    before (suc to) lt e = let a : suc (suc to) - 1 ≡ suc to = omega arith in let b : suc to - 1 ≡ to = omega arith in
        ap (λ k. place_by (slice_index_or (t ∷ ts) k d) (slice_index_or ts from d)) a ∙ (ap (λ k. place_by (slice_index_or ts k d) (slice_index_or ts from d)) (sym b) ∙ e)

abbrev placed : ℕ → ℕ → Place
placed n l = record { last = n; line = l }

or_same : (ts : List Token) (k : ℕ) (d e : Token) → k < length ts → slice_index_or ts k d ≡ slice_index_or ts k e
or_same [] k d e lt = absurd (omega (arith, lt))
or_same (t ∷ ts) zero d e lt = refl
or_same (t ∷ ts) (suc k) d e lt = or_same ts k d e (omega (arith, lt))

pub place_was : (ts : List Token) (from to : ℕ) (d e : Token) (p : Place) (n l : ℕ) → p ≡ record { last = n; line = l } → n ≡ (slice_index_or ts (to - 1) d).number → l ≡ (slice_index_or ts from e).line
    → from < to → to ≤ length ts → p ≡ between (drop from ts) (drop to ts)
place_was ts from to d e p n l is number line lt le =
    let first : l ≡ (slice_index_or ts from d).line = line ∙ ap (λ t. t.line) (or_same ts from e d (omega (arith, lt, le))) in
    is ∙ (ap (λ n. placed n l) number ∙ (ap (placed (slice_index_or ts (to - 1) d).number) first ∙ place_is ts from to d lt le))
