-- Lines that are written one after another, and the text that they are.
use Rattle.std.proofs.Common.{◌≡◌, ℕ, zero, suc, refl, ◌<◌, List, [], ◌∷◌, ◌++◌, length, map, take, get_or, sym, ap, ◌∙◌, arith, append_assoc}
use Rattle.std.specs.Prelude.{flat_map}
use Rattle.dc_goto.specs.Program.{GotoProgram}
use Rattle.dc_goto.specs.Text.{line_bytes, lines_of, text_of}

-- the text in front of an element, and what stands behind it
pub cut_at : (xs : List (List ℕ)) (i : ℕ) (x : List ℕ) → i < length xs → x ≡ get_or xs i x → (rest : List ℕ) × (flat_map (λ y. y) xs ≡ flat_map (λ y. y) (take i xs) ++ (x ++ rest))
cut_at [] i x lt e = absurd (omega arith)
cut_at (y ∷ xs) zero x lt e = (flat_map (λ y. y) xs, ap (λ y. y ++ flat_map (λ y. y) xs) (sym e))
cut_at (y ∷ xs) (suc i) x lt e =
    let lt' : i < length xs = omega arith in
    let r = cut_at xs i x lt' e in
    (r.0, ap (λ zs. y ++ zs) r.1 ∙ sym (append_assoc y (flat_map (λ y. y) (take i xs)) (x ++ r.0)))

-- the lines of a program, one after another, are its text
pub whole_text : (p : GotoProgram) (lines : List (List ℕ)) → lines ≡ map line_bytes (lines_of p) → flat_map (λ line. line) lines ≡ text_of p
whole_text p lines e = ap (flat_map (λ line. line)) e ∙ joined (lines_of p)
  where
    joined : (xs : List (List ℕ)) → flat_map (λ line. line) (map line_bytes xs) ≡ flat_map line_bytes xs
    joined [] = refl
    joined (x ∷ xs) = ap (λ l. line_bytes x ++ l) (joined xs)
