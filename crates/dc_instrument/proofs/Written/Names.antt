-- Names of checks, and the places of names among the functions.
use Rattle.std.proofs.Common.{◌≡◌, ℕ, ◌+◌, ◌%◌, ◌^◌, ◌≤◌, ◌<◌, Bool, true, false, List, [], ◌∷◌, ◌++◌, None, Some, refl, sym, ap, arith, cond}
use Rattle.std.specs.Prelude.{codes, not, slice_get}
use Rattle.std.specs.Cmp.Lexicographic.{bytes_decides}
use Rattle.std.specs.Fmt.{decimal}
use Rattle.std.specs.List.{list_all}
use Rattle.std.proofs.lemmas.Fmt.{decimal_by_steps_wide}
use Rattle.std.proofs.lemmas.Bool.Decides.{nat_tests}
use Rattle.dc_core.specs.Assertion.{assigns_name, postcondition_name}
use Rattle.dc_text.specs.Words.{same, is_word, is_word_part, is_letter}
use Rattle.dc_goto.specs.Lines.{is_check_name, is_check_part}
use Rattle.dc_goto.specs.Program.{Sig}
use Rattle.dc_goto.specs.Shape.{place_of, sig_of}
use Rattle.dc_goto.proofs.Digits.{and_true, both_true}

-- Names of checks ---------------------------------------------------------------------------------------------------

parts_append : (xs ys : List ℕ) → list_all is_check_part xs ≡ true → list_all is_check_part ys ≡ true → list_all is_check_part (xs ++ ys) ≡ true
parts_append [] ys p q = q
parts_append (x ∷ xs) ys p q =
    let t = and_true (is_check_part x) (list_all is_check_part xs) p in
    both_true (is_check_part x) (list_all is_check_part (xs ++ ys)) t.0 (parts_append xs ys t.1 q)

digit_is_part : (d : ℕ) → d < 10 → is_check_part (48 + d) ≡ true
digit_is_part d h = grind (arith, nat_tests)

decimal_parts : (n : ℕ) → n < 10 ^ 64 → list_all is_check_part (decimal n) ≡ true
decimal_parts n small = decimal_by_steps_wide (λ n ds. list_all is_check_part ds ≡ true) one more n small
  where
    one : (n : ℕ) → n < 10 → list_all is_check_part ((48 + n) ∷ []) ≡ true
    one n h = both_true (is_check_part (48 + n)) true (digit_is_part n h) refl

    more : (n : ℕ) (ds : List ℕ) → 10 ≤ n → list_all is_check_part ds ≡ true → list_all is_check_part (ds ++ ((48 + n % 10) ∷ [])) ≡ true
    more n ds le h = parts_append ds ((48 + n % 10) ∷ []) h (one (n % 10) (omega arith))

letter_is_part : (b : ℕ) → is_letter b ≡ true → is_check_part b ≡ true
letter_is_part b h = grind (arith, nat_tests)

word_part_is_part : (b : ℕ) → is_word_part b ≡ true → is_check_part b ≡ true
word_part_is_part b h = rw h refl

word_parts : (bytes : List ℕ) → list_all is_word_part bytes ≡ true → list_all is_check_part bytes ≡ true
word_parts [] h = refl
word_parts (b ∷ bytes) h =
    let t = and_true (is_word_part b) (list_all is_word_part bytes) h in
    both_true (is_check_part b) (list_all is_check_part bytes) (word_part_is_part b t.0) (word_parts bytes t.1)

-- a word with parts behind it is the name of a check
check_name : (word bytes : List ℕ) → is_word word ≡ true → list_all is_check_part bytes ≡ true → is_check_name (word ++ bytes) ≡ true
check_name [] bytes w h = cc
check_name (b ∷ word) bytes w h =
    let t = and_true (is_letter b) (list_all is_word_part word) w in
    both_true (is_check_part b) (list_all is_check_part (word ++ bytes)) (letter_is_part b t.0) (parts_append word bytes (word_parts word t.1) h)

pub assigns_check : (function : List ℕ) (site : ℕ) → is_word function ≡ true → site < 10 ^ 64 → is_check_name (assigns_name function site) ≡ true
assigns_check function site w small =
    check_name function (codes ".assigns." ++ decimal site) w (parts_append (codes ".assigns.") (decimal site) refl (decimal_parts site small))

pub postcondition_check : (function : List ℕ) (k : ℕ) → is_word function ≡ true → k < 10 ^ 64 → is_check_name (postcondition_name function k) ≡ true
postcondition_check function k w small =
    check_name function (codes ".postcondition." ++ decimal k) w (parts_append (codes ".postcondition.") (decimal k) refl (decimal_parts k small))

-- Places of names ---------------------------------------------------------------------------------------------------

pub same_self : (xs : List ℕ) → same xs xs ≡ true
same_self xs = (bytes_decides xs xs).1 refl

by_false : (a b : Bool) → (a ≡ true → b ≡ true) → b ≡ false → a ≡ false
by_false true b h e = let t = h refl in cc
by_false false b h e = refl

pub differ_back : (xs ys : List ℕ) → same xs ys ≡ false → same ys xs ≡ false
differ_back xs ys h = by_false (same ys xs) (same xs ys) (λ t. (bytes_decides xs ys).1 (sym ((bytes_decides ys xs).0 t))) h

-- the only function's place is the first
pub place_here : (sig : Sig) → place_of (sig ∷ []) sig.name ≡ 0
place_here sig = ap (λ b. cond (not b) (1 + 0) 0) (same_self sig.name)

pub sig_here : (sig : Sig) → sig_of (sig ∷ []) sig.name ≡ Some sig
sig_here sig = ap (λ k. slice_get (sig ∷ []) k) (place_here sig)

-- another name's place is behind it
pub place_other : (sig : Sig) (name : List ℕ) → same name sig.name ≡ false → place_of (sig ∷ []) name ≡ 1
place_other sig name h = ap (λ b. cond (not b) (1 + 0) 0) h

pub sig_other : (sig : Sig) (name : List ℕ) → same name sig.name ≡ false → sig_of (sig ∷ []) name ≡ None
sig_other sig name h = ap (λ k. slice_get (sig ∷ []) k) (place_other sig name h)
