-- Numbers in decimal.
use Rattle.std.proofs.Common.{◌≡◌, ℕ, zero, suc, ◌+◌, ◌-◌, ◌*◌, ◌^◌, ◌≤◌, ◌<◌, ◌↔◌, Bool, true, false, ◌&&◌, List, [], ◌∷◌, length, get_or, Option, None, Some, refl, sym, ap, subst, ◌∙◌, arith, rules}
use Rattle.std.specs.Prelude.{if◌then◌else◌, not, nat_lt, ◌==◌}
use Rattle.std.specs.Int.{IsInRange}
use Rattle.std.specs.List.{list_all}
use Rattle.std.specs.Fmt.{decimal}
use Rattle.std.proofs.lemmas.Fmt.{digits_decimal, digits_value-decimal, decimal-digits_value, first_decimal, decimal_nonempty, decimal_digit}
use Rattle.std.proofs.lemmas.Str.Parse.{IsNumeralModel, IsDigitsTest, FoldsDigits, numerals_by_fold}
use Rattle.std.proofs.lemmas.Bool.Decides.{nat_tests}
use Rattle.dc_text.specs.Digits.{is_digit, is_plain, number_from, number_of}

abbrev value_from : ℕ → List ℕ → ℕ
value_from n [] = n
value_from n (b ∷ bytes) = value_from (n * 10 + (b - 48)) bytes

and_true : (x y : Bool) → (x && y) ≡ true → (x ≡ true) × (y ≡ true)
and_true true y h = (refl, h)
and_true false y h = cc

chosen : (b : Bool) (x : Option ℕ) (y : ℕ) → (if b then x else None) ≡ Some y → (b ≡ true) × (x ≡ Some y)
chosen true x y h = (refl, h)
chosen false x y h = cc

some_number : (x y : ℕ) → Some x ≡ Some y → x ≡ y
some_number x y h = cc

own : IsNumeralModel (λ ds. list_all is_digit ds ≡ true) (value_from 0)
own = numerals_by_fold _ tells value_from folds
  where
    digit_range : (c : ℕ) → is_digit c ≡ true → IsInRange 48 57 c
    digit_range c h = let a : 48 ≤ c = grind (arith, nat_tests) in let b : c ≤ 57 = grind (arith, nat_tests) in search (rules, a, b)

    range_digit : (c : ℕ) → IsInRange 48 57 c → is_digit c ≡ true
    range_digit c h = grind (arith, nat_tests, h)

    tells : IsDigitsTest (λ ds. list_all is_digit ds ≡ true)
    tells =
        record {
          empty = refl;
          parts = λ c cs h. let t = and_true (is_digit c) (list_all is_digit cs) h in (digit_range c t.0, t.1);
          more = λ c cs r h. rw (range_digit c r) h;
        }

    folds : FoldsDigits value_from
    folds = record { empty = λ n. refl; more = λ n c cs r. refl }

most_grows : (n : ℕ) (ds : List ℕ) → n ≤ value_from n ds
most_grows n [] = omega arith
most_grows n (b ∷ ds) =
    let r = most_grows (n * 10 + (b - 48)) ds in
    omega arith

numbers_complete : (ds : List ℕ) (n : ℕ) → list_all is_digit ds ≡ true → value_from n ds < 2 ^ 64 → number_from n ds ≡ Some (value_from n ds)
numbers_complete [] n h small = refl
numbers_complete (b ∷ ds) n h small =
    let t = and_true (is_digit b) (list_all is_digit ds) h in
    let grows = most_grows (n * 10 + (b - 48)) ds in
    let fits : nat_lt (n * 10 + (b - 48)) (2 ^ 64) ≡ true = fits_in (n * 10 + (b - 48)) (value_from (n * 10 + (b - 48)) ds) grows small in
    ap (λ t. if t then number_from (n * 10 + (b - 48)) ds else None) (both (is_digit b) (nat_lt (n * 10 + (b - 48)) (2 ^ 64)) t.0 fits)
    ∙ numbers_complete ds (n * 10 + (b - 48)) t.1 small
  where
    fits_in : (m v : ℕ) → m ≤ v → v < 2 ^ 64 → nat_lt m (2 ^ 64) ≡ true
    fits_in m v a b = grind (arith, nat_tests)

    both : (x y : Bool) → x ≡ true → y ≡ true → (x && y) ≡ true
    both x y p q = rw (p, q) refl

numbers_sound : (ds : List ℕ) (n v : ℕ) → n < 2 ^ 64 → number_from n ds ≡ Some v → (list_all is_digit ds ≡ true) × (value_from n ds ≡ v) × (v < 2 ^ 64)
numbers_sound [] n v small h = let e : n ≡ v = some_number n v h in (refl, e, omega arith)
numbers_sound (b ∷ ds) n v small h =
    let t = chosen (is_digit b && nat_lt (n * 10 + (b - 48)) (2 ^ 64)) (number_from (n * 10 + (b - 48)) ds) v h in
    let u = and_true (is_digit b) (nat_lt (n * 10 + (b - 48)) (2 ^ 64)) t.0 in
    let r = numbers_sound ds (n * 10 + (b - 48)) v (below (n * 10 + (b - 48)) u.1) t.1 in
    (rw u.0 r.0, r.1, r.2)
  where
    below : (m : ℕ) → nat_lt m (2 ^ 64) ≡ true → m < 2 ^ 64
    below m h = grind (arith, nat_tests)

plain_by_first : (ds : List ℕ) → 0 < length ds → 48 < get_or ds 0 0 → is_plain ds ≡ true
plain_by_first [] p f = absurd (omega arith)
plain_by_first (b ∷ []) p f = refl
plain_by_first (b ∷ c ∷ ds) p f = let e : (b == 48) ≡ false = grind (arith, nat_tests) in rw e refl

plain_some : (ds : List ℕ) → is_plain ds ≡ true → (0 < length ds) × (get_or ds 0 0 ≡ 48 → length ds ≡ 1)
plain_some [] h = cc
plain_some (b ∷ []) h = (omega arith, λ e. refl)
plain_some (b ∷ c ∷ ds) h = (omega arith, λ e. let t : (b == 48) ≡ true = grind (arith, nat_tests) in let f : false ≡ true = sym (ap not t) ∙ h in absurd (cc_false f))
  where
    cc_false : false ≡ true → ⊥
    cc_false f = cc

-- a decimal is read as its number
decimal_read : (n : ℕ) → n < 2 ^ 64 → number_of (decimal n) ≡ Some n
decimal_read zero small = ap number_of (decimal_digit 0 (omega arith))
decimal_read (suc m) small =
    let plain = plain_by_first (decimal (suc m)) (decimal_nonempty (suc m) small) (first_decimal (suc m) (omega arith) small) in
    let value = digits_value-decimal own (suc m) small in
    let fits : value_from 0 (decimal (suc m)) < 2 ^ 64 = subst (λ v. v < 2 ^ 64) (sym value) small in
    ap (λ t. if t then number_from 0 (decimal (suc m)) else None) plain
    ∙ numbers_complete (decimal (suc m)) 0 (digits_decimal own (suc m) small) fits
    ∙ ap (λ v. Some v) value

-- what is read as a number is its decimal
read_number : (ds : List ℕ) (n : ℕ) → number_of ds ≡ Some n → (n < 2 ^ 64) × (ds ≡ decimal n)
read_number ds n h =
    let t = chosen (is_plain ds) (number_from 0 ds) n h in
    let s = plain_some ds t.0 in
    let r = numbers_sound ds 0 n (omega arith) t.1 in
    let small : value_from 0 ds < 2 ^ 64 = subst (λ v. v < 2 ^ 64) (sym r.1) r.2 in
    (r.2, sym (decimal-digits_value own ds r.0 s.0 s.1 small) ∙ ap decimal r.1)

-- a number is read exactly from its one spelling
pub reads_exactly : (ds : List ℕ) (n : ℕ) → (number_of ds ≡ Some n) ↔ ((n < 2 ^ 64) × (ds ≡ decimal n))
reads_exactly ds n = (read_number ds n, λ h. ap number_of h.1 ∙ decimal_read n h.0)
