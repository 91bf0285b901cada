-- Whether only blanks stand behind the last newline.
use Rattle.std.proofs.Common.{◌≡◌, ℕ, Bool, true, ◌&&◌, ◌||◌, ◌⊎◌, inl, inr, List, [], ◌∷◌, ◌++◌, refl, ap, ◌∙◌}
use Rattle.std.specs.Prelude.{◌==◌}
use Rattle.std.specs.List.{list_all}
use Rattle.std.proofs.lemmas.Bool.{and_parts, and_from, or_cases, or_right, eqb-true}
use Rattle.dc_lexer.specs.Pieces.{is_blank, is_newline, AreBlanks, IsAtLineStart}
use Rattle.dc_lexer.specs.Reading.{at_start}

-- what the bytes are if the answer is yes
abbrev Behind : Bool → List ℕ → Type 0
Behind fresh bytes =
    ((fresh ≡ true) × AreBlanks bytes)
    ⊎ ((front blanks : List ℕ) × AreBlanks blanks × (bytes ≡ (front ++ 10 ∷ []) ++ blanks))

start_behind : (fresh : Bool) (bytes : List ℕ) → at_start fresh bytes ≡ true → Behind fresh bytes
start_behind fresh [] e = inl (e, refl)
start_behind fresh (b ∷ bytes) e = by_rest (start_behind (is_newline b || (fresh && is_blank b)) bytes e)
  where
    by_byte : AreBlanks bytes → ((b == 10) ≡ true) ⊎ ((fresh && is_blank b) ≡ true) → Behind fresh (b ∷ bytes)
    by_byte blank (inl f) = inr ([], bytes, blank, ap (λ b. b ∷ bytes) (eqb-true b 10 f))
    by_byte blank (inr f) = let parts = and_parts fresh (is_blank b) f in inl (parts.0, and_from (is_blank b) (list_all is_blank bytes) parts.1 blank)

    by_rest : Behind (is_newline b || (fresh && is_blank b)) bytes → Behind fresh (b ∷ bytes)
    by_rest (inl h) = by_byte h.1 (or_cases (is_newline b) (fresh && is_blank b) h.0)
    by_rest (inr h) = inr (b ∷ h.0, h.1, h.2, ap (λ r. b ∷ r) h.3)

pub start_sound : (before : List ℕ) → at_start true before ≡ true → IsAtLineStart before
start_sound before e = by_case (start_behind true before e)
  where
    by_case : Behind true before → IsAtLineStart before
    by_case (inl h) = record { lines = []; blanks = before; whole = refl; blank = h.1; ends = inl refl }
    by_case (inr h) = record { lines = h.0 ++ 10 ∷ []; blanks = h.1; whole = h.3; blank = h.2; ends = inr (h.0, refl) }

pub start_append : (fresh : Bool) (xs ys : List ℕ) → at_start fresh (xs ++ ys) ≡ at_start (at_start fresh xs) ys
start_append fresh [] ys = refl
start_append fresh (b ∷ xs) ys = start_append (is_newline b || (fresh && is_blank b)) xs ys

start_blanks : (blanks : List ℕ) → AreBlanks blanks → at_start true blanks ≡ true
start_blanks [] all = refl
start_blanks (b ∷ blanks) all =
    let parts = and_parts (is_blank b) (list_all is_blank blanks) all in
    ap (λ t. at_start t blanks) (or_right (is_newline b) (true && is_blank b) parts.0) ∙ start_blanks blanks parts.1

pub start_whole : (before : List ℕ) → IsAtLineStart before → at_start true before ≡ true
start_whole before s =
    ap (at_start true) s.whole ∙ start_append true s.lines s.blanks ∙ ap (λ t. at_start t s.blanks) (lines s.lines s.ends) ∙ start_blanks s.blanks s.blank
  where
    lines : (lines : List ℕ) → (lines ≡ []) ⊎ ((front : List ℕ) × (lines ≡ front ++ 10 ∷ [])) → at_start true lines ≡ true
    lines l (inl e) = ap (at_start true) e
    lines l (inr e) = ap (at_start true) e.1 ∙ start_append true e.0 (10 ∷ [])
