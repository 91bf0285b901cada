-- Values in the place of others.
use Rattle.std.proofs.Common.{◌≡◌, ℕ, zero, suc, ◌+◌, ◌≤◌, List, [], ◌∷◌, ◌++◌, length, take, drop, refl, ap, sym, ◌∙◌, arith}
use Rattle.std.proofs.lemmas.List.{take_at, length-take-le, length-drop, append_assoc, drop-drop}
use Rattle.dc_memory.specs.Places.{put_at}

pub put_at-none : (from : ℕ) (xs : List ℕ) → put_at from [] xs ≡ xs
put_at-none from [] = refl
put_at-none zero (x ∷ xs) = refl
put_at-none (suc from) (x ∷ xs) = ap (λ l. x ∷ l) (put_at-none from xs)

pub length-put_at : (from : ℕ) (values xs : List ℕ) → length (put_at from values xs) ≡ length xs
length-put_at from values [] = refl
length-put_at zero [] (x ∷ xs) = refl
length-put_at zero (v ∷ values) (x ∷ xs) = let h = length-put_at zero values xs in omega arith
length-put_at (suc from) values (x ∷ xs) = let h = length-put_at from values xs in omega arith

-- from the start on
put_at-front : (values xs : List ℕ) → length values ≤ length xs → values ++ drop (length values) xs ≡ put_at 0 values xs
put_at-front [] [] le = refl
put_at-front [] (x ∷ xs) le = refl
put_at-front (v ∷ values) [] le = absurd (omega arith)
put_at-front (v ∷ values) (x ∷ xs) le = ap (λ l. v ∷ l) (put_at-front values xs (omega arith))

pub put_at-middle : (from : ℕ) (values xs : List ℕ) → from + length values ≤ length xs → take from xs ++ (values ++ drop (length values) (drop from xs)) ≡ put_at from values xs
put_at-middle zero values xs le = put_at-front values xs (omega arith)
put_at-middle (suc from) [] [] le = absurd (omega arith)
put_at-middle (suc from) (v ∷ values) [] le = absurd (omega arith)
put_at-middle (suc from) values (x ∷ xs) le = ap (λ l. x ∷ l) (put_at-middle from values xs (omega arith))

-- what is left of a vector of so many elements after a write to a part of it, which was seen as a slice
pub put-seen : (n from k : ℕ) (xs view old part values : List ℕ) → n ≡ length old → view ≡ old → xs ≡ old → k ≡ length values → part ≡ values → from + length values ≤ length old
    → take n ((take from view ++ (part ++ drop k (drop from view))) ++ drop (length (take from view ++ (part ++ drop k (drop from view)))) xs) ≡ put_at from values old
put-seen n from k xs view old part values count seen same few is le =
    let middle : take from view ++ (part ++ drop k (drop from view)) ≡ put_at from values old = rw (seen, is, few) (put_at-middle from values old le) in
    rw middle (take_at (put_at from values old) (drop (length (put_at from values old)) xs) n (length-put_at from values old ∙ sym count))

-- what a copy within a list leaves
pub put-copied : (to from len n : ℕ) (new xs old : List ℕ) → xs ≡ old → n ≡ len → new ≡ take to xs ++ take n (drop from xs) ++ drop (to + n) xs → from + len ≤ length old → to + len ≤ length old
    → new ≡ put_at to (take len (drop from old)) old
put-copied to from len n new xs old same few is source target =
    let rest : len ≤ length (drop from old) = rw length-drop (omega arith) in
    let count : length (take len (drop from old)) ≡ len = length-take-le len (drop from old) rest in
    let whole : to + length (take len (drop from old)) ≤ length old = omega arith in
    let middle = put_at-middle to (take len (drop from old)) old whole in
    is ∙ rw (same, few, append_assoc) (rw (count, drop-drop) at middle)

pub length-part : (from len n : ℕ) (view old : List ℕ) → view ≡ old → n ≡ len → from + len ≤ length old → length (take n (drop from view)) ≡ len
length-part from len n view old seen few le =
    let rest : len ≤ length (drop from old) = rw length-drop (omega arith) in
    rw (seen, few) (length-take-le len (drop from old) rest)
