-- The words that are a row of the table.
use Rattle.std.proofs.Common.{◌≡◌, ℕ, zero, suc, ◌<◌, ◌≤◌, ◌^◌, ◌⊎◌, List, [], ◌∷◌, length, get_or, true, refl, sym, ◌∙◌, ap, arith, inl, inr}
use Rattle.std.specs.Prelude.{codes, Some}
use Rattle.std.specs.Fmt.{decimal}
use Rattle.std.specs.Cmp.Lexicographic.{bytes_decides}
use Rattle.dc_text.specs.Words.{same, is_word}
use Rattle.dc_text.proofs.Spellings.{decimal_same}
use Rattle.dc_top.specs.Row.{asked_by, IsModeOf}
use Rattle.dc_top.specs.declared.table.Mode.{Mode}
use Rattle.dc_top.specs.declared.table.Mode.TheVariants as mode
use Rattle.dc_top.specs.Table.{Asked, Text, Contract, Plain, Command, Instrument, Replay, replay_word, options_of, IsRow}

-- each row has four words, or six
pub row_length : (words : List (List ℕ)) (command : Command) → IsRow words command → (length words ≡ 4) ⊎ (length words ≡ 6)
row_length words (Instrument file name) row = inl (ap length row.words_are)
row_length words (Replay Text file choices steps) row = inl (ap length row.words_are)
row_length words (Replay (Contract name) file choices steps) row = inr (ap length row.words_are)
row_length words (Replay (Plain name) file choices steps) row = inr (ap length row.words_are)

-- One row -----------------------------------------------------------------------------------------------------------

below : (n : ℕ) → n < 2 ^ 64 → n < 2 ^ 128
below n lt = omega arith

first_letter : (asked : Asked) → get_or (replay_word asked) 0 0 ≡ 114
first_letter Text = refl
first_letter (Contract name) = refl
first_letter (Plain name) = refl

one_asked : (a b : Asked) (f c s g d t : List ℕ) → replay_word a ∷ f ∷ c ∷ s ∷ options_of a ≡ replay_word b ∷ g ∷ d ∷ t ∷ options_of b → a ≡ b
one_asked Text Text f c s g d t e = refl
one_asked Text (Contract n) f c s g d t e = let l = ap length e in absurd (omega (arith, l))
one_asked Text (Plain n) f c s g d t e = let l = ap length e in absurd (omega (arith, l))
one_asked (Contract m) Text f c s g d t e = let l = ap length e in absurd (omega (arith, l))
one_asked (Contract m) (Contract n) f c s g d t e = ap (λ xs. Contract (get_or xs 5 [])) e
one_asked (Contract m) (Plain n) f c s g d t e = let l = ap (λ xs. length (get_or xs 0 [])) e in absurd (omega (arith, l))
one_asked (Plain m) Text f c s g d t e = let l = ap length e in absurd (omega (arith, l))
one_asked (Plain m) (Contract n) f c s g d t e = let l = ap (λ xs. length (get_or xs 0 [])) e in absurd (omega (arith, l))
one_asked (Plain m) (Plain n) f c s g d t e = ap (λ xs. Plain (get_or xs 5 [])) e

-- the words are one row
pub one_command : (words : List (List ℕ)) (c d : Command) → IsRow words c → IsRow words d → c ≡ d
one_command words (Instrument f m) (Instrument g n) p q =
    let e = sym p.words_are ∙ q.words_are in
    ap (λ xs. Instrument (get_or xs 1 []) (get_or xs 3 [])) e
one_command words (Instrument f m) (Replay b g d n) p q =
    let e = ap (λ xs. get_or (get_or xs 0 []) 0 0) (sym p.words_are ∙ q.words_are) in
    let l = first_letter b in
    absurd (omega (arith, e, l))
one_command words (Replay a f c m) (Instrument g n) p q =
    let e = ap (λ xs. get_or (get_or xs 0 []) 0 0) (sym p.words_are ∙ q.words_are) in
    let l = first_letter a in
    absurd (omega (arith, e, l))
one_command words (Replay a f c m) (Replay b g d n) p q =
    let e = sym p.words_are ∙ q.words_are in
    ap (λ xs. Replay a (get_or xs 1 []) (get_or xs 2 []) m) e
    ∙ ap (λ a. Replay a g d m) (one_asked a b f c (decimal m) g d (decimal n) e)
    ∙ ap (Replay b g d) (decimal_same m n (below m p.steps) (below n q.steps) (ap (λ xs. get_or xs 3 []) e))

-- Found -------------------------------------------------------------------------------------------------------------

four : (words : List (List ℕ)) → 4 ≤ length words → length words < 5 → words ≡ get_or words 0 [] ∷ get_or words 1 [] ∷ get_or words 2 [] ∷ get_or words 3 [] ∷ []
four [] le lt = absurd (omega arith)
four (w ∷ []) le lt = absurd (omega arith)
four (w ∷ x ∷ []) le lt = absurd (omega arith)
four (w ∷ x ∷ y ∷ []) le lt = absurd (omega arith)
four (w ∷ x ∷ y ∷ z ∷ []) le lt = refl
four (w ∷ x ∷ y ∷ z ∷ v ∷ words) le lt = absurd (omega arith)

six : (words : List (List ℕ)) → 6 ≤ length words → length words < 7
    → words ≡ get_or words 0 [] ∷ get_or words 1 [] ∷ get_or words 2 [] ∷ get_or words 3 [] ∷ get_or words 4 [] ∷ get_or words 5 [] ∷ []
six [] le lt = absurd (omega arith)
six (w ∷ []) le lt = absurd (omega arith)
six (w ∷ x ∷ []) le lt = absurd (omega arith)
six (w ∷ x ∷ y ∷ []) le lt = absurd (omega arith)
six (w ∷ x ∷ y ∷ z ∷ []) le lt = absurd (omega arith)
six (w ∷ x ∷ y ∷ z ∷ v ∷ []) le lt = absurd (omega arith)
six (w ∷ x ∷ y ∷ z ∷ v ∷ u ∷ []) le lt = refl
six (w ∷ x ∷ y ∷ z ∷ v ∷ u ∷ t ∷ words) le lt = absurd (omega arith)

-- an item is there whatever stands for a missing one
there : (words : List (List ℕ)) (k : ℕ) (a b : List ℕ) → k < length words → get_or words k a ≡ get_or words k b
there [] k a b lt = absurd (omega arith)
there (w ∷ words) zero a b lt = refl
there (w ∷ words) (suc k) a b lt = there words k a b (omega arith)

pub instrument_found : (words : List (List ℕ)) (a c d : List ℕ) → 4 ≤ length words → length words < 5 → a ≡ get_or words 0 a → c ≡ get_or words 2 c → d ≡ get_or words 3 d
    → same a (codes "instrument") ≡ true → same c (codes "--enforce") ≡ true → is_word d ≡ true → IsRow words (Instrument (get_or words 1 []) d)
instrument_found words a c d le lt p q r command option formed =
    let ea : get_or words 0 [] ≡ codes "instrument" = there words 0 [] a (omega arith) ∙ sym p ∙ (bytes_decides a (codes "instrument")).0 command in
    let ec : get_or words 2 [] ≡ codes "--enforce" = there words 2 [] c (omega arith) ∙ sym q ∙ (bytes_decides c (codes "--enforce")).0 option in
    let ed : d ≡ get_or words 3 [] = r ∙ there words 3 d [] (omega arith) in
    record {
      words_are =
          four words le lt
          ∙ ap (λ a. a ∷ get_or words 1 [] ∷ get_or words 2 [] ∷ get_or words 3 [] ∷ []) ea
          ∙ ap (λ c. codes "instrument" ∷ get_or words 1 [] ∷ c ∷ get_or words 3 [] ∷ []) ec
          ∙ ap (λ d. codes "instrument" ∷ get_or words 1 [] ∷ codes "--enforce" ∷ d ∷ []) (sym ed);
      name = formed;
      steps = tt;
    }

pub text_found : (words : List (List ℕ)) (a d : List ℕ) (steps : ℕ) → 4 ≤ length words → length words < 5 → a ≡ get_or words 0 a → d ≡ get_or words 3 d
    → same a (codes "replay") ≡ true → steps < 2 ^ 64 → d ≡ decimal steps → IsRow words (Replay Text (get_or words 1 []) (get_or words 2 []) steps)
text_found words a d steps le lt p r command small number =
    let ea : get_or words 0 [] ≡ codes "replay" = there words 0 [] a (omega arith) ∙ sym p ∙ (bytes_decides a (codes "replay")).0 command in
    let ed : get_or words 3 [] ≡ decimal steps = there words 3 [] d (omega arith) ∙ sym r ∙ number in
    record {
      words_are = four words le lt ∙ ap (λ a. a ∷ get_or words 1 [] ∷ get_or words 2 [] ∷ get_or words 3 [] ∷ []) ea ∙ ap (λ d. codes "replay" ∷ get_or words 1 [] ∷ get_or words 2 [] ∷ d ∷ []) ed;
      name = tt;
      steps = small;
    }

-- six words of which these are four
six_words : (words : List (List ℕ)) (a s o n word number : List ℕ) → 6 ≤ length words → length words < 7 → a ≡ get_or words 0 a → s ≡ get_or words 3 s → o ≡ get_or words 4 o → n ≡ get_or words 5 n
    → a ≡ word → s ≡ number → same o (codes "--enforce") ≡ true → words ≡ word ∷ get_or words 1 [] ∷ get_or words 2 [] ∷ number ∷ codes "--enforce" ∷ n ∷ []
six_words words a s o n word number le lt p q r t command decimal_is option =
    let ea : get_or words 0 [] ≡ word = there words 0 [] a (omega arith) ∙ sym p ∙ command in
    let es : get_or words 3 [] ≡ number = there words 3 [] s (omega arith) ∙ sym q ∙ decimal_is in
    let eo : get_or words 4 [] ≡ codes "--enforce" = there words 4 [] o (omega arith) ∙ sym r ∙ (bytes_decides o (codes "--enforce")).0 option in
    let en : get_or words 5 [] ≡ n = there words 5 [] n (omega arith) ∙ sym t in
    six words le lt
    ∙ ap (λ a. a ∷ get_or words 1 [] ∷ get_or words 2 [] ∷ get_or words 3 [] ∷ get_or words 4 [] ∷ get_or words 5 [] ∷ []) ea
    ∙ ap (λ s. word ∷ get_or words 1 [] ∷ get_or words 2 [] ∷ s ∷ get_or words 4 [] ∷ get_or words 5 [] ∷ []) es
    ∙ ap (λ o. word ∷ get_or words 1 [] ∷ get_or words 2 [] ∷ number ∷ o ∷ get_or words 5 [] ∷ []) eo
    ∙ ap (λ n. word ∷ get_or words 1 [] ∷ get_or words 2 [] ∷ number ∷ codes "--enforce" ∷ n ∷ []) en

pub source_found : (mode : Mode) (words : List (List ℕ)) (a s o n : List ℕ) (steps : ℕ) → 6 ≤ length words → length words < 7 → a ≡ get_or words 0 a → s ≡ get_or words 3 s → o ≡ get_or words 4 o → n ≡ get_or words 5 n
    → IsModeOf a (Some mode) → steps < 2 ^ 64 → s ≡ decimal steps → same o (codes "--enforce") ≡ true → is_word n ≡ true → IsRow words (Replay (asked_by mode n) (get_or words 1 []) (get_or words 2 []) steps)
source_found mode.Contract words a s o n steps le lt p q r t command small number option formed =
    record { words_are = six_words words a s o n (codes "replay-source") (decimal steps) le lt p q r t command number option; name = formed; steps = small }
source_found mode.Plain words a s o n steps le lt p q r t command small number option formed =
    record { words_are = six_words words a s o n (codes "replay-plain") (decimal steps) le lt p q r t command number option; name = formed; steps = small }
