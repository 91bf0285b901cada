-- Spellings of numbers below 2^128.
use Rattle.std.proofs.Common.{◌≡◌, ℕ, ℤ, pos, negsuc, suc, ◌^◌, ◌<◌, ◌≤◌, true, List, [], ◌∷◌, length, drop, unsigned_abs, refl, sym, ap, subst, ◌∙◌, arith}
use Rattle.std.specs.List.{list_all}
use Rattle.std.specs.Fmt.{decimal, signed_decimal}
use Rattle.std.specs.Str.Parse.{AllDigits, digits_value}
use Rattle.std.proofs.lemmas.Fmt.{decimal_is_IsNumeral_wide}
use Rattle.std.proofs.lemmas.Str.Parse.{digit_from_value}
use Rattle.std.proofs.lemmas.Bool.Decides.{nat_tests}
use Rattle.dc_text.specs.Digits.{is_digit}

below : (n : ℕ) → n < 2 ^ 128 → n < 10 ^ 64
below n h = omega arith

pub decimal_some : (n : ℕ) → n < 2 ^ 128 → 0 < length (decimal n)
decimal_some n h = (decimal_is_IsNumeral_wide n (below n h)).0.0

pub decimal_same : (m n : ℕ) → m < 2 ^ 128 → n < 2 ^ 128 → decimal m ≡ decimal n → m ≡ n
decimal_same m n p q e =
    sym (decimal_is_IsNumeral_wide m (below m p)).1 ∙ ap (digits_value 10) e ∙ (decimal_is_IsNumeral_wide n (below n q)).1

digits_of_numeral : (ds : List ℕ) → AllDigits 10 ds → list_all is_digit ds ≡ true
digits_of_numeral [] h = refl
digits_of_numeral (c ∷ ds) h =
    let r = digit_from_value c h.0 in
    let low : 48 ≤ c = omega (arith, r) in
    let high : c ≤ 57 = omega (arith, r) in
    let first : is_digit c ≡ true = grind (arith, nat_tests, low, high) in
    rw first (digits_of_numeral ds h.1)

pub decimal_digits : (n : ℕ) → n < 2 ^ 128 → list_all is_digit (decimal n) ≡ true
decimal_digits n h = digits_of_numeral (decimal n) (decimal_is_IsNumeral_wide n (below n h)).0.1

no_minus : (n : ℕ) (ds : List ℕ) → n < 2 ^ 128 → decimal n ≡ 45 ∷ ds → ⊥
no_minus n ds h e =
    let digits : AllDigits 10 (45 ∷ ds) = subst (AllDigits 10) e (decimal_is_IsNumeral_wide n (below n h)).0.1 in
    omega (arith, digit_from_value 45 digits.0)

pub signed_same : (y z : ℤ) → unsigned_abs y < 2 ^ 128 → unsigned_abs z < 2 ^ 128 → signed_decimal y ≡ signed_decimal z → y ≡ z
signed_same (pos m) (pos n) p q e = ap pos (decimal_same m n p q e)
signed_same (pos m) (negsuc n) p q e = absurd (no_minus m _ p e)
signed_same (negsuc m) (pos n) p q e = absurd (no_minus n _ q (sym e))
signed_same (negsuc m) (negsuc n) p q e = ap negsuc (omega (arith, decimal_same (suc m) (suc n) p q (ap (drop 1) e)))
