-- Punctuators.
use Rattle.std.proofs.Common.{◌≡◌, ℕ, ◌≤◌, ◌<◌, Bool, true, false, cond, ◌&&◌, ◌||◌, ◌⊎◌, inl, inr, List, [], ◌∷◌, ◌++◌, length, refl, sym, subst, arith}
use Rattle.std.specs.Prelude.{◌==◌, nat_eq}
use Rattle.std.specs.List.{list_all, list_any, Contains}
use Rattle.std.proofs.lemmas.Bool.{and_parts, or_cases, eqb-true, false≢true}
use Rattle.dc_text.specs.Words.{same}
use Rattle.dc_lexer.specs.Words.{punctuators}
use Rattle.dc_lexer.specs.Reading.{is_among, singles, before_equals, twice, is_single, is_pair, is_triple, begins_pair, begins_triple, punctuator_len}
use Rattle.dc_lexer.proofs.Longest.{Front, Measures}
use Rattle.dc_lexer.proofs.Spans.{all_at}
use Rattle.dc_lexer.proofs.Suffixed.{listed}

abbrev pub IsMark : List ℕ → Type 0
IsMark word = Contains punctuators word

abbrev is_listed : List ℕ → Bool
is_listed word = list_any (same word) punctuators

-- A byte of a table passes what all of it pass
among : (p : ℕ → Bool) (table : List ℕ) (b : ℕ) → list_all p table ≡ true → is_among table b ≡ true → p b ≡ true
among p [] b all h = absurd (false≢true h)
among p (y ∷ table) b all h =
    let parts = and_parts (p y) (list_all p table) all in
    elim (or_cases (nat_eq y b) (is_among table b) h) [
      | inl e ↦ subst (λ z. p z ≡ true) (eqb-true y b e) parts.0
      | inr e ↦ among p table b parts.1 e
    ]

single_listed : (b : ℕ) → is_single b ≡ true → is_listed (b ∷ []) ≡ true
single_listed b h = among (λ b. is_listed (b ∷ [])) singles b refl h

equals_listed : (a b : ℕ) → (b == 61 && is_among before_equals a) ≡ true → is_listed (a ∷ b ∷ []) ≡ true
equals_listed a b h =
    let parts = and_parts (b == 61) (is_among before_equals a) h in
    subst (λ b. is_listed (a ∷ b ∷ []) ≡ true) (sym (eqb-true b 61 parts.0)) (among (λ a. is_listed (a ∷ 61 ∷ [])) before_equals a refl parts.1)

twice_listed : (a b : ℕ) → (b == a && is_among twice a) ≡ true → is_listed (a ∷ b ∷ []) ≡ true
twice_listed a b h =
    let parts = and_parts (b == a) (is_among twice a) h in
    subst (λ b. is_listed (a ∷ b ∷ []) ≡ true) (sym (eqb-true b a parts.0)) (among (λ a. is_listed (a ∷ a ∷ [])) twice a refl parts.1)

arrow_listed : (a b : ℕ) → (a == 45 && b == 62) ≡ true → is_listed (a ∷ b ∷ []) ≡ true
arrow_listed a b h =
    let parts = and_parts (a == 45) (b == 62) h in
    subst (λ a. is_listed (a ∷ b ∷ []) ≡ true) (sym (eqb-true a 45 parts.0)) (subst (λ b. is_listed (45 ∷ b ∷ []) ≡ true) (sym (eqb-true b 62 parts.1)) refl)

pair_listed : (a b : ℕ) → is_pair a b ≡ true → is_listed (a ∷ b ∷ []) ≡ true
pair_listed a b h =
    elim (or_cases ((b == 61 && is_among before_equals a) || (b == a && is_among twice a)) (a == 45 && b == 62) h) [
      | inl h ↦ elim (or_cases (b == 61 && is_among before_equals a) (b == a && is_among twice a) h) [ inl h ↦ equals_listed a b h | inr h ↦ twice_listed a b h ]
      | inr h ↦ arrow_listed a b h
    ]

triple_at : (a c x z : ℕ) → (a == x) ≡ true → (c == z) ≡ true → is_listed (x ∷ x ∷ z ∷ []) ≡ true → is_listed (a ∷ a ∷ c ∷ []) ≡ true
triple_at a c x z ea ec h =
    subst (λ a. is_listed (a ∷ a ∷ c ∷ []) ≡ true) (sym (eqb-true a x ea)) (subst (λ c. is_listed (x ∷ x ∷ c ∷ []) ≡ true) (sym (eqb-true c z ec)) h)

triple_listed : (a b c : ℕ) → is_triple a b c ≡ true → is_listed (a ∷ b ∷ c ∷ []) ≡ true
triple_listed a b c h =
    let parts = and_parts (b == a) ((a == 61 && c == 62) || (c == 61 && (a == 60 || a == 62))) h in
    subst (λ b. is_listed (a ∷ b ∷ c ∷ []) ≡ true) (sym (eqb-true b a parts.0)) (by_end (or_cases (a == 61 && c == 62) (c == 61 && (a == 60 || a == 62)) parts.1))
  where
    by_end : ((a == 61 && c == 62) ≡ true) ⊎ ((c == 61 && (a == 60 || a == 62)) ≡ true) → is_listed (a ∷ a ∷ c ∷ []) ≡ true
    by_end (inl h) = let p = and_parts (a == 61) (c == 62) h in triple_at a c 61 62 p.0 p.1 refl
    by_end (inr h) =
        let p = and_parts (c == 61) (a == 60 || a == 62) h in
        elim (or_cases (a == 60) (a == 62) p.1) [ inl e ↦ triple_at a c 60 61 e p.0 refl | inr e ↦ triple_at a c 62 61 e p.0 refl ]

-- What is found is a punctuator -------------------------------------------------------------------------------------

mark_sound : (bytes : List ℕ) → 0 < punctuator_len bytes → Front IsMark bytes (punctuator_len bytes)
mark_sound [] some = absurd (omega arith)
mark_sound (a ∷ bytes) some = by_triple (begins_triple a bytes) refl some
  where
    by_single : (t : Bool) → is_single a ≡ t → 0 < cond t 1 0 → Front IsMark (a ∷ bytes) (cond t 1 0)
    by_single true e some = record { word = a ∷ []; rest = bytes; whole = refl; len_is = refl; is = listed punctuators (a ∷ []) (single_listed a e) }
    by_single false e some = absurd (omega arith)

    pair : (bytes : List ℕ) → begins_pair a bytes ≡ true → Front IsMark (a ∷ bytes) 2
    pair [] e = absurd (false≢true e)
    pair (b ∷ bytes) e = record { word = a ∷ b ∷ []; rest = bytes; whole = refl; len_is = refl; is = listed punctuators (a ∷ b ∷ []) (pair_listed a b e) }

    by_pair : (t : Bool) → begins_pair a bytes ≡ t → 0 < cond t 2 (cond (is_single a) 1 0) → Front IsMark (a ∷ bytes) (cond t 2 (cond (is_single a) 1 0))
    by_pair true e some = pair bytes e
    by_pair false e some = by_single (is_single a) refl some

    triple : (bytes : List ℕ) → begins_triple a bytes ≡ true → Front IsMark (a ∷ bytes) 3
    triple [] e = absurd (false≢true e)
    triple (b ∷ []) e = absurd (false≢true e)
    triple (b ∷ c ∷ bytes) e = record { word = a ∷ b ∷ c ∷ []; rest = bytes; whole = refl; len_is = refl; is = listed punctuators (a ∷ b ∷ c ∷ []) (triple_listed a b c e) }

    by_triple : (t : Bool) → begins_triple a bytes ≡ t → 0 < cond t 3 (cond (begins_pair a bytes) 2 (cond (is_single a) 1 0)) → Front IsMark (a ∷ bytes) (cond t 3 (cond (begins_pair a bytes) 2 (cond (is_single a) 1 0)))
    by_triple true e some = triple bytes e
    by_triple false e some = by_pair (begins_pair a bytes) refl some

-- A punctuator is found whole ---------------------------------------------------------------------------------------

abbrev is_shaped : List ℕ → Bool
is_shaped [] = false
is_shaped (a ∷ []) = is_single a
is_shaped (a ∷ b ∷ []) = is_pair a b
is_shaped (a ∷ b ∷ c ∷ []) = is_triple a b c
is_shaped (a ∷ b ∷ c ∷ d ∷ word) = false

single_len : (t u v : Bool) → v ≡ true → 1 ≤ cond t 3 (cond u 2 (cond v 1 0))
single_len true u v e = omega arith
single_len false true v e = omega arith
single_len false false true e = omega arith
single_len false false false e = absurd (false≢true e)

pair_len : (t u v : Bool) → u ≡ true → 2 ≤ cond t 3 (cond u 2 (cond v 1 0))
pair_len true u v e = omega arith
pair_len false true v e = omega arith
pair_len false false v e = absurd (false≢true e)

triple_len : (t u v : Bool) → t ≡ true → 3 ≤ cond t 3 (cond u 2 (cond v 1 0))
triple_len true u v e = omega arith
triple_len false u v e = absurd (false≢true e)

mark_whole : (word rest : List ℕ) → IsMark word → length word ≤ punctuator_len (word ++ rest)
mark_whole word rest is = by_shape word (all_at is_shaped punctuators word refl is)
  where
    by_shape : (word : List ℕ) → is_shaped word ≡ true → length word ≤ punctuator_len (word ++ rest)
    by_shape [] h = absurd (false≢true h)
    by_shape (a ∷ []) h = single_len (begins_triple a rest) (begins_pair a rest) (is_single a) h
    by_shape (a ∷ b ∷ []) h = pair_len (begins_triple a (b ∷ rest)) (is_pair a b) (is_single a) h
    by_shape (a ∷ b ∷ c ∷ []) h = triple_len (is_triple a b c) (is_pair a b) (is_single a) h
    by_shape (a ∷ b ∷ c ∷ d ∷ word) h = absurd (false≢true h)

abbrev is_there : List ℕ → Bool
is_there [] = false
is_there (a ∷ word) = true

mark_there : (word : List ℕ) → IsMark word → 0 < length word
mark_there [] is = absurd (false≢true (all_at is_there punctuators [] refl is))
mark_there (a ∷ word) is = omega arith

pub mark_measured : Measures IsMark punctuator_len
mark_measured = record { sound = mark_sound; whole = mark_whole; there = mark_there }
