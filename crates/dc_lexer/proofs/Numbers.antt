-- The digits of integers, and their values.
use Rattle.std.proofs.Common.{◌≡◌, ℕ, suc, ◌+◌, ◌≤◌, ◌<◌, Bool, true, false, cond, ◌&&◌, inl, inr, List, [], ◌∷◌, ◌++◌, length, refl, sym, ap, subst, ◌∙◌, arith}
use Rattle.std.specs.Prelude.{◌==◌, nat_le}
use Rattle.std.specs.List.{list_all, prefix_len}
use Rattle.std.proofs.lemmas.Bool.{and_parts, and_from, eqb-true, false≢true}
use Rattle.std.proofs.lemmas.Bool.Decides.{nat_tests}
use Rattle.dc_text.specs.Words.{is_digit}
use Rattle.dc_lexer.specs.Words.{is_octal_digit, is_hexadecimal_digit, is_hexadecimal_mark, value_behind, HasValue}
use Rattle.dc_lexer.specs.Reading.{zero_len, digits_len, zero_value, digits_value}
use Rattle.dc_lexer.proofs.Longest.{Front}
use Rattle.dc_lexer.proofs.Spans.{Passes, Stops, span_front, span_stops, span_reaches, one_more}

-- Bytes -------------------------------------------------------------------------------------------------------------

octal_unmarked : (b : ℕ) → is_octal_digit b ≡ true → is_hexadecimal_mark b ≡ false
octal_unmarked b e = grind (arith, nat_tests)

not_decimal : (b : ℕ) → is_hexadecimal_digit b ≡ false → is_digit b ≡ false
not_decimal b e = grind (arith, nat_tests)

not_octal : (b : ℕ) → is_hexadecimal_digit b ≡ false → is_octal_digit b ≡ false
not_octal b e = grind (arith, nat_tests)

above_zero : (b : ℕ) → (b == 48) ≡ false → is_digit b ≡ true → (nat_le 49 b && nat_le b 57) ≡ true
above_zero b e f = grind (arith, nat_tests)

from_one : (b : ℕ) → (nat_le 49 b && nat_le b 57) ≡ true → ((b == 48) ≡ false) × (is_digit b ≡ true)
from_one b e = (grind (arith, nat_tests), grind (arith, nat_tests))

-- Behind a zero -----------------------------------------------------------------------------------------------------

-- no `x` stands in front
abbrev Unmarked : List ℕ → Type 0
Unmarked [] = Unit {0}
Unmarked (b ∷ bytes) = is_hexadecimal_mark b ≡ false

zero_octal : (bytes : List ℕ) → Unmarked bytes → zero_len bytes ≡ prefix_len is_octal_digit bytes
zero_octal [] plain = refl
zero_octal (b ∷ []) plain = refl
zero_octal (b ∷ c ∷ bytes) plain =
    ap (λ t. cond (t && is_hexadecimal_digit c) (2 + prefix_len is_hexadecimal_digit bytes) (prefix_len is_octal_digit (b ∷ c ∷ bytes))) plain

octals_unmarked : (word rest : List ℕ) → Passes is_octal_digit word → Unmarked rest → Unmarked (word ++ rest)
octals_unmarked [] rest all plain = plain
octals_unmarked (b ∷ word) rest all plain = octal_unmarked b (and_parts (is_octal_digit b) (list_all is_octal_digit word) all).0

octal_value : (word : List ℕ) → Passes is_octal_digit word → zero_value word ≡ value_behind 8 0 word
octal_value [] all = refl
octal_value (b ∷ word) all =
    ap (λ t. cond t (value_behind 16 0 word) (value_behind 8 0 (b ∷ word))) (octal_unmarked b (and_parts (is_octal_digit b) (list_all is_octal_digit word) all).0)

-- digits of the value that is found
abbrev pub IsNumber : List ℕ → Type 0
IsNumber digits = HasValue digits (digits_value digits)

octal_number : (word : List ℕ) → Passes is_octal_digit word → IsNumber (48 ∷ word)
octal_number word all = inr (inl (all, octal_value word all))

octal_front : (bytes : List ℕ) → Front IsNumber (48 ∷ bytes) (1 + prefix_len is_octal_digit bytes)
octal_front bytes =
    let f = span_front is_octal_digit bytes in
    let n : length f.word ≡ prefix_len is_octal_digit bytes = f.len_is in
    record { word = 48 ∷ f.word; rest = f.rest; whole = ap (λ r. 48 ∷ r) f.whole; len_is = omega arith; is = octal_number f.word f.is }

hexadecimal_number : (mark digit : ℕ) (word : List ℕ) → is_hexadecimal_mark mark ≡ true → is_hexadecimal_digit digit ≡ true → Passes is_hexadecimal_digit word → IsNumber (48 ∷ mark ∷ digit ∷ word)
hexadecimal_number mark digit word m d all =
    inr (inr (
      and_from (is_hexadecimal_mark mark) (list_all is_hexadecimal_digit (digit ∷ word)) m (and_from (is_hexadecimal_digit digit) (list_all is_hexadecimal_digit word) d all),
      ap (λ t. cond t (value_behind 16 0 (digit ∷ word)) (value_behind 8 0 (mark ∷ digit ∷ word))) m,
    ))

zero_front : (bytes : List ℕ) → Front IsNumber (48 ∷ bytes) (1 + zero_len bytes)
zero_front [] = octal_front []
zero_front (b ∷ []) = octal_front (b ∷ [])
zero_front (mark ∷ digit ∷ bytes) = by_test (is_hexadecimal_mark mark && is_hexadecimal_digit digit) refl
  where
    by_test : (t : Bool) → (is_hexadecimal_mark mark && is_hexadecimal_digit digit) ≡ t → Front IsNumber (48 ∷ mark ∷ digit ∷ bytes) (1 + cond t (2 + prefix_len is_hexadecimal_digit bytes) (prefix_len is_octal_digit (mark ∷ digit ∷ bytes)))
    by_test true e =
        let parts = and_parts (is_hexadecimal_mark mark) (is_hexadecimal_digit digit) e in
        let f = span_front is_hexadecimal_digit bytes in
        let n : length f.word ≡ prefix_len is_hexadecimal_digit bytes = f.len_is in
        record {
          word = 48 ∷ mark ∷ digit ∷ f.word;
          rest = f.rest;
          whole = ap (λ r. 48 ∷ mark ∷ digit ∷ r) f.whole;
          len_is = omega arith;
          is = hexadecimal_number mark digit f.word parts.0 parts.1 f.is;
        }
    by_test false e = octal_front (mark ∷ digit ∷ bytes)

-- Digits are found --------------------------------------------------------------------------------------------------

decimal_number : (b : ℕ) (word : List ℕ) → (b == 48) ≡ false → is_digit b ≡ true → Passes is_digit word → IsNumber (b ∷ word)
decimal_number b word e d all =
    inl (
      and_from (nat_le 49 b && nat_le b 57) (list_all is_digit word) (above_zero b e d) all,
      ap (λ t. cond t (zero_value word) (value_behind 10 0 (b ∷ word))) e,
    )

pub digits_front : (bytes : List ℕ) → 0 < digits_len bytes → Front IsNumber bytes (digits_len bytes)
digits_front [] some = absurd (omega arith)
digits_front (b ∷ bytes) some = by_zero (b == 48) refl some
  where
    by_digit : (t : Bool) → is_digit b ≡ t → (b == 48) ≡ false → 0 < cond t (1 + prefix_len is_digit bytes) 0 → Front IsNumber (b ∷ bytes) (cond t (1 + prefix_len is_digit bytes) 0)
    by_digit true d e some =
        let f = span_front is_digit bytes in
        let n : length f.word ≡ prefix_len is_digit bytes = f.len_is in
        record { word = b ∷ f.word; rest = f.rest; whole = ap (λ r. b ∷ r) f.whole; len_is = omega arith; is = decimal_number b f.word e d f.is }
    by_digit false d e some = absurd (omega arith)

    by_zero : (t : Bool) → (b == 48) ≡ t → 0 < cond t (1 + zero_len bytes) (cond (is_digit b) (1 + prefix_len is_digit bytes) 0) → Front IsNumber (b ∷ bytes) (cond t (1 + zero_len bytes) (cond (is_digit b) (1 + prefix_len is_digit bytes) 0))
    by_zero true e some = subst (λ z. Front IsNumber (z ∷ bytes) (1 + zero_len bytes)) (sym (eqb-true b 48 e)) (zero_front bytes)
    by_zero false e some = by_digit (is_digit b) refl e some

-- Digits are found whole --------------------------------------------------------------------------------------------

-- what may stand behind digits for them to end there
abbrev pub EndsDigits : List ℕ → Type 0
EndsDigits [] = Unit {0}
EndsDigits (b ∷ bytes) = (is_hexadecimal_digit b ≡ false) × (is_hexadecimal_mark b ≡ false)

decimal_len : (b : ℕ) (bytes : List ℕ) → (nat_le 49 b && nat_le b 57) ≡ true → digits_len (b ∷ bytes) ≡ 1 + prefix_len is_digit bytes
decimal_len b bytes e =
    let f = from_one b e in
    ap (λ t. cond t (1 + zero_len bytes) (cond (is_digit b) (1 + prefix_len is_digit bytes) 0)) f.0
    ∙ ap (λ t. cond t (1 + prefix_len is_digit bytes) 0) f.1

octal_len : (b : ℕ) (bytes : List ℕ) → (b == 48) ≡ true → digits_len (b ∷ bytes) ≡ 1 + zero_len bytes
octal_len b bytes e = ap (λ t. cond t (1 + zero_len bytes) (cond (is_digit b) (1 + prefix_len is_digit bytes) 0)) e

hexadecimal_len : (mark digit : ℕ) (bytes : List ℕ) → is_hexadecimal_mark mark ≡ true → is_hexadecimal_digit digit ≡ true → zero_len (mark ∷ digit ∷ bytes) ≡ 2 + prefix_len is_hexadecimal_digit bytes
hexadecimal_len mark digit bytes m d =
    ap (λ t. cond t (2 + prefix_len is_hexadecimal_digit bytes) (prefix_len is_octal_digit (mark ∷ digit ∷ bytes))) (and_from (is_hexadecimal_mark mark) (is_hexadecimal_digit digit) m d)

-- a number, by its parts
pub data Number (digits : List ℕ) (value : ℕ) : Type 0 where
  Decimal : (b : ℕ) (word : List ℕ) → digits ≡ b ∷ word → (nat_le 49 b && nat_le b 57) ≡ true → Passes is_digit word → value ≡ value_behind 10 0 digits → Number digits value
  Octal : (b : ℕ) (word : List ℕ) → digits ≡ b ∷ word → (b == 48) ≡ true → Passes is_octal_digit word → value ≡ value_behind 8 0 digits → Number digits value
  Hexadecimal : (b mark digit : ℕ) (word : List ℕ) → digits ≡ b ∷ mark ∷ digit ∷ word → (b == 48) ≡ true → is_hexadecimal_mark mark ≡ true → is_hexadecimal_digit digit ≡ true → Passes is_hexadecimal_digit word → value ≡ value_behind 16 0 (digit ∷ word) → Number digits value

pub number_parts : (digits : List ℕ) (value : ℕ) → HasValue digits value → Number digits value
number_parts [] value (inl h) = absurd (false≢true h.0)
number_parts (b ∷ word) value (inl h) =
    let parts = and_parts (nat_le 49 b && nat_le b 57) (list_all is_digit word) h.0 in
    Decimal b word refl parts.0 parts.1 h.1
number_parts [] value (inr (inl h)) = absurd (false≢true h.0)
number_parts (b ∷ word) value (inr (inl h)) =
    let parts = and_parts (b == 48) (list_all is_octal_digit word) h.0 in
    Octal b word refl parts.0 parts.1 h.1
number_parts [] value (inr (inr h)) = absurd (false≢true h.0)
number_parts (b ∷ []) value (inr (inr h)) = absurd (false≢true h.0)
number_parts (b ∷ mark ∷ []) value (inr (inr h)) = absurd (false≢true h.0)
number_parts (b ∷ mark ∷ digit ∷ word) value (inr (inr h)) =
    let outer = and_parts (b == 48 && is_hexadecimal_mark mark) (list_all is_hexadecimal_digit (digit ∷ word)) h.0 in
    let front = and_parts (b == 48) (is_hexadecimal_mark mark) outer.0 in
    let behind = and_parts (is_hexadecimal_digit digit) (list_all is_hexadecimal_digit word) outer.1 in
    Hexadecimal b mark digit word refl front.0 front.1 behind.0 behind.1 h.1

-- the digits are found, and maybe more
pub digits_reach : (digits : List ℕ) (value : ℕ) (rest : List ℕ) → HasValue digits value → length digits ≤ digits_len (digits ++ rest)
digits_reach digits value rest is = by_parts (number_parts digits value is)
  where
    zero_reach : (word : List ℕ) → Passes is_octal_digit word → length word ≤ zero_len (word ++ rest)
    zero_reach [] all = omega arith
    zero_reach (c ∷ word) all =
        let low : length (c ∷ word) ≤ prefix_len is_octal_digit ((c ∷ word) ++ rest) = span_reaches is_octal_digit (c ∷ word) rest all in
        let e : zero_len ((c ∷ word) ++ rest) ≡ prefix_len is_octal_digit ((c ∷ word) ++ rest) = zero_octal ((c ∷ word) ++ rest) (octal_unmarked c (and_parts (is_octal_digit c) (list_all is_octal_digit word) all).0) in
        subst (λ n. length (c ∷ word) ≤ n) (sym e) low

    by_parts : Number digits value → length digits ≤ digits_len (digits ++ rest)
    by_parts (Decimal b word e first all v) =
        let low : length word ≤ prefix_len is_digit (word ++ rest) = span_reaches is_digit word rest all in
        let n : suc (length word) ≤ 1 + prefix_len is_digit (word ++ rest) = omega arith in
        subst (λ d. length d ≤ digits_len (d ++ rest)) (sym e) (subst (λ n. suc (length word) ≤ n) (sym (decimal_len b (word ++ rest) first)) n)
    by_parts (Octal b word e first all v) =
        let low : length word ≤ zero_len (word ++ rest) = zero_reach word all in
        let n : suc (length word) ≤ 1 + zero_len (word ++ rest) = omega arith in
        subst (λ d. length d ≤ digits_len (d ++ rest)) (sym e) (subst (λ n. suc (length word) ≤ n) (sym (octal_len b (word ++ rest) first)) n)
    by_parts (Hexadecimal b mark digit word e first m d all v) =
        let low : length word ≤ prefix_len is_hexadecimal_digit (word ++ rest) = span_reaches is_hexadecimal_digit word rest all in
        let n : suc (suc (suc (length word))) ≤ 1 + (2 + prefix_len is_hexadecimal_digit (word ++ rest)) = omega arith in
        subst (λ d. length d ≤ digits_len (d ++ rest)) (sym e)
        (subst (λ n. suc (suc (suc (length word))) ≤ n) (sym (octal_len b (mark ∷ digit ∷ (word ++ rest)) first ∙ ap (λ n. 1 + n) (hexadecimal_len mark digit (word ++ rest) m d))) n)

-- the digits are found, and no more
pub digits_exact : (digits : List ℕ) (value : ℕ) (rest : List ℕ) → HasValue digits value → EndsDigits rest → digits_len (digits ++ rest) ≡ length digits
digits_exact digits value rest is ends = by_parts (number_parts digits value is)
  where
    stops_decimal : (rest : List ℕ) → EndsDigits rest → Stops is_digit rest
    stops_decimal [] ends = tt
    stops_decimal (b ∷ rest) ends = not_decimal b ends.0

    stops_octal : (rest : List ℕ) → EndsDigits rest → Stops is_octal_digit rest
    stops_octal [] ends = tt
    stops_octal (b ∷ rest) ends = not_octal b ends.0

    stops_hexadecimal : (rest : List ℕ) → EndsDigits rest → Stops is_hexadecimal_digit rest
    stops_hexadecimal [] ends = tt
    stops_hexadecimal (b ∷ rest) ends = ends.0

    unmarked : (rest : List ℕ) → EndsDigits rest → Unmarked rest
    unmarked [] ends = tt
    unmarked (b ∷ rest) ends = ends.1

    by_parts : Number digits value → digits_len (digits ++ rest) ≡ length digits
    by_parts (Decimal b word e first all v) =
        let n : prefix_len is_digit (word ++ rest) ≡ length word = span_stops is_digit word rest all (stops_decimal rest ends) in
        subst (λ d. digits_len (d ++ rest) ≡ length d) (sym e) (decimal_len b (word ++ rest) first ∙ ap (λ n. 1 + n) n ∙ one_more (length word))
    by_parts (Octal b word e first all v) =
        let n : zero_len (word ++ rest) ≡ length word = zero_octal (word ++ rest) (octals_unmarked word rest all (unmarked rest ends)) ∙ span_stops is_octal_digit word rest all (stops_octal rest ends) in
        subst (λ d. digits_len (d ++ rest) ≡ length d) (sym e) (octal_len b (word ++ rest) first ∙ ap (λ n. 1 + n) n ∙ one_more (length word))
    by_parts (Hexadecimal b mark digit word e first m d all v) =
        let n : prefix_len is_hexadecimal_digit (word ++ rest) ≡ length word = span_stops is_hexadecimal_digit word rest all (stops_hexadecimal rest ends) in
        let sum : 1 + (2 + length word) ≡ suc (suc (suc (length word))) = omega arith in
        subst (λ d. digits_len (d ++ rest) ≡ length d) (sym e)
        (octal_len b (mark ∷ digit ∷ (word ++ rest)) first ∙ ap (λ n. 1 + n) (hexadecimal_len mark digit (word ++ rest) m d) ∙ ap (λ n. 1 + (2 + n)) n ∙ sum)

-- digits have one value
pub value_is : (digits : List ℕ) (value : ℕ) → HasValue digits value → value ≡ digits_value digits
value_is digits value is = by_parts (number_parts digits value is)
  where
    zero_is : (b : ℕ) (word : List ℕ) → (b == 48) ≡ true → digits_value (b ∷ word) ≡ zero_value word
    zero_is b word first = ap (λ t. cond t (zero_value word) (value_behind 10 0 (b ∷ word))) first

    by_parts : Number digits value → value ≡ digits_value digits
    by_parts (Decimal b word e first all v) =
        v ∙ subst (λ d. value_behind 10 0 d ≡ digits_value d) (sym e) (sym (ap (λ t. cond t (zero_value word) (value_behind 10 0 (b ∷ word))) (from_one b first).0))
    by_parts (Octal b word e first all v) =
        let behind : value_behind 8 0 (b ∷ word) ≡ value_behind 8 0 word = subst (λ z. value_behind 8 0 (z ∷ word) ≡ value_behind 8 0 word) (sym (eqb-true b 48 first)) refl in
        v ∙ ap (value_behind 8 0) e ∙ behind ∙ sym (octal_value word all) ∙ sym (zero_is b word first) ∙ ap digits_value (sym e)
    by_parts (Hexadecimal b mark digit word e first m d all v) =
        v ∙ sym (ap (λ t. cond t (value_behind 16 0 (digit ∷ word)) (value_behind 8 0 (mark ∷ digit ∷ word))) m) ∙ sym (zero_is b (mark ∷ digit ∷ word) first) ∙ ap digits_value (sym e)
