-- Numbers in decimal.
use Rattle.std.proofs.Common.{◌≡◌, ℕ, ◌^◌, ◌≤◌, ◌<◌, Bool, true, false, ◌&&◌, List, [], ◌∷◌, length, Option, None, Some, refl, ap, ◌∙◌, arith}
use Rattle.std.specs.Prelude.{not, nat_le, ◌↔◌}
use Rattle.std.specs.List.{list_all}
use Rattle.std.specs.Fmt.{decimal}
use Rattle.std.proofs.lemmas.Bool.Decides.{nat_tests}
use Rattle.dc_text.specs.Words.{is_digit, is_letter, is_word_part}
use Rattle.dc_text.specs.Reserved.{is_reserved}
use Rattle.dc_text.proofs.Decimals.{reads_exactly}
use Rattle.dc_text.proofs.Spellings.{decimal_some, decimal_digits}
use Rattle.dc_text.specs.Digits.{number_of as decimal_of}
use Rattle.dc_form.specs.Form.{is_name}
use Rattle.dc_form.specs.Read.Numbers.{small, number_of}

small_some : (o : Option ℕ) (n : ℕ) → small o ≡ Some n → (o ≡ Some n) × (n ≤ 2147483647)
small_some None n e = cc
small_some (Some m) n e = grind (arith, nat_tests)

-- a decimal is read as its number
pub decimal_read : (n : ℕ) → n ≤ 2147483647 → number_of (decimal n) ≡ Some n
decimal_read n le =
    let wide : n < 2 ^ 64 = omega arith in
    let fits : nat_le n 2147483647 ≡ true = grind (arith, nat_tests) in
    ap small ((reads_exactly (decimal n) n).1 (wide, refl)) ∙ rw fits refl

-- what is read as a number is its decimal
pub read_decimal : (ds : List ℕ) (n : ℕ) → number_of ds ≡ Some n → (ds ≡ decimal n) × (n ≤ 2147483647)
read_decimal ds n h =
    let s = small_some (decimal_of ds) n h in
    (((reads_exactly ds n).0 s.0).1, s.1)

-- what the code reads as a decimal
pub decimal_is : (bytes : List ℕ) (o : Option ℕ) → ((n : ℕ) → (o ≡ Some n) ↔ ((n < 2 ^ 64) × (bytes ≡ decimal n))) → decimal_of bytes ≡ o
decimal_is bytes (Some n) h = (reads_exactly bytes n).1 ((h n).0 refl)
decimal_is bytes None h = none (decimal_of bytes) refl
  where
    none : (o : Option ℕ) → decimal_of bytes ≡ o → decimal_of bytes ≡ None
    none None e = e
    none (Some n) e = let f : None ≡ Some n = (h n).1 ((reads_exactly bytes n).0 e) in cc

no_letter : (b : ℕ) → is_digit b ≡ true → is_letter b ≡ false
no_letter b h = grind (arith, nat_tests)

and_true : (x y : Bool) → (x && y) ≡ true → x ≡ true
and_true true y h = refl
and_true false y h = cc

-- a decimal is no name
pub decimal_no_name : (n : ℕ) → n ≤ 2147483647 → is_name (decimal n) ≡ false
decimal_no_name n le =
    let wide : n < 2 ^ 128 = omega arith in
    no_word (decimal n) (decimal_some n wide) (decimal_digits n wide)
  where
    no_word : (ds : List ℕ) → 0 < length ds → list_all is_digit ds ≡ true → is_name ds ≡ false
    no_word [] p h = absurd (omega arith)
    no_word (b ∷ ds) p h =
        let l : is_letter b ≡ false = no_letter b (and_true (is_digit b) (list_all is_digit ds) h) in
        ap (λ t. (t && list_all is_word_part ds) && not (is_reserved (b ∷ ds))) l
