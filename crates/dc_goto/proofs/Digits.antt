-- Decimals are read as the numbers that they spell, and nothing else is.
use Rattle.std.proofs.Common.{◌≡◌, ℕ, ◌+◌, ◌-◌, ◌*◌, ◌/◌, ◌%◌, ◌^◌, ◌≤◌, ◌<◌, Bool, true, false, ◌&&◌, List, [], ◌∷◌, ◌++◌, Option, None, Some, refl, sym, ap, subst, ◌∙◌, arith, append_assoc, append-nil}
use Rattle.std.specs.Prelude.{if◌then◌else◌, not, nat_le, ◌==◌}
use Rattle.std.specs.List.{list_all}
use Rattle.std.specs.Fmt.{decimal}
use Rattle.std.proofs.lemmas.Fmt.{decimal_digit, decimal_step_wide, decimal_by_steps_wide}
use Rattle.std.proofs.lemmas.Bool.Decides.{nat_tests}
use Rattle.dc_text.specs.Words.{is_digit}
use Rattle.dc_goto.specs.Reading.{is_plain, number_from, decimal_of, ends_word}

abbrev value_from : ℕ → List ℕ → ℕ
value_from n [] = n
value_from n (b ∷ bytes) = value_from (n * 10 + (b - 48)) bytes

pub and_true : (x y : Bool) → (x && y) ≡ true → (x ≡ true) × (y ≡ true)
and_true true y h = (refl, h)
and_true false y h = cc

pub both_true : (x y : Bool) → x ≡ true → y ≡ true → (x && y) ≡ true
both_true x y p q = rw (p, q) refl

-- a number that is given only under a test
pub under_test : {A : Type 0} (b : Bool) (x : Option A) (y : A) → (if b then x else None) ≡ Some y → (b ≡ true) × (x ≡ Some y)
under_test true x y h = (refl, h)
under_test false x y h = cc

same_number : (x y : ℕ) → Some x ≡ Some y → x ≡ y
same_number x y h = cc

value_grows : (n : ℕ) (ds : List ℕ) → n ≤ value_from n ds
value_grows n [] = omega arith
value_grows n (b ∷ ds) =
    let r = value_grows (n * 10 + (b - 48)) ds in
    omega arith

-- Reading digits --------------------------------------------------------------------------------------------------

digits_read : (limit : ℕ) (ds : List ℕ) (n : ℕ) → list_all is_digit ds ≡ true → value_from n ds ≤ limit → number_from limit n ds ≡ Some (value_from n ds)
digits_read limit [] n h le = refl
digits_read limit (b ∷ ds) n h le =
    let t = and_true (is_digit b) (list_all is_digit ds) h in
    let grows = value_grows (n * 10 + (b - 48)) ds in
    let fits : nat_le (n * 10 + (b - 48)) limit ≡ true = fits_in (n * 10 + (b - 48)) (value_from (n * 10 + (b - 48)) ds) grows le in
    ap (λ t. if t then number_from limit (n * 10 + (b - 48)) ds else None) (both_true (is_digit b) (nat_le (n * 10 + (b - 48)) limit) t.0 fits)
    ∙ digits_read limit ds (n * 10 + (b - 48)) t.1 le
  where
    fits_in : (m v : ℕ) → m ≤ v → v ≤ limit → nat_le m limit ≡ true
    fits_in m v a b = grind (arith, nat_tests)

digits_sound : (limit : ℕ) (ds : List ℕ) (n v : ℕ) → n ≤ limit → number_from limit n ds ≡ Some v → (list_all is_digit ds ≡ true) × (value_from n ds ≡ v) × (v ≤ limit)
digits_sound limit [] n v le h = let e : n ≡ v = same_number n v h in (refl, e, omega arith)
digits_sound limit (b ∷ ds) n v le h =
    let t = under_test (is_digit b && nat_le (n * 10 + (b - 48)) limit) (number_from limit (n * 10 + (b - 48)) ds) v h in
    let u = and_true (is_digit b) (nat_le (n * 10 + (b - 48)) limit) t.0 in
    let r = digits_sound limit ds (n * 10 + (b - 48)) v (below (n * 10 + (b - 48)) u.1) t.1 in
    (rw u.0 r.0, r.1, r.2)
  where
    below : (m : ℕ) → nat_le m limit ≡ true → m ≤ limit
    below m h = grind (arith, nat_tests)

-- Digits and decimals ---------------------------------------------------------------------------------------------

digit_range : (b : ℕ) → is_digit b ≡ true → (48 ≤ b) × (b ≤ 57)
digit_range b h = (grind (arith, nat_tests), grind (arith, nat_tests))

range_digit : (b : ℕ) → 48 ≤ b → b ≤ 57 → is_digit b ≡ true
range_digit b p q = grind (arith, nat_tests)

below_top : (a b top : ℕ) → a ≤ b → b < top → a < top
below_top a b top p q = omega arith

-- one digit more
digit_behind : (n b : ℕ) → 0 < n → 48 ≤ b → b ≤ 57 → n * 10 + (b - 48) < 10 ^ 64 → decimal (n * 10 + (b - 48)) ≡ decimal n ++ b ∷ []
digit_behind n b p low high small =
    decimal_step_wide (n * 10 + (b - 48)) (omega arith) small
    ∙ ap (λ m. decimal m ++ (48 + (n * 10 + (b - 48)) % 10) ∷ []) front ∙ ap (λ d. decimal n ++ d ∷ []) back
  where
    front : (n * 10 + (b - 48)) / 10 ≡ n
    front = omega arith

    back : 48 + (n * 10 + (b - 48)) % 10 ≡ b
    back = omega arith

digits_behind : (ds : List ℕ) (n : ℕ) → 0 < n → list_all is_digit ds ≡ true → value_from n ds < 10 ^ 64 → decimal (value_from n ds) ≡ decimal n ++ ds
digits_behind [] n p h small = sym (append-nil (decimal n))
digits_behind (b ∷ ds) n p h small =
    let t = and_true (is_digit b) (list_all is_digit ds) h in
    let d = digit_range b t.0 in
    let grows = value_grows (n * 10 + (b - 48)) ds in
    digits_behind ds (n * 10 + (b - 48)) (positive n (b - 48) p) t.1 small
    ∙ ap (λ l. l ++ ds) (digit_behind n b p d.0 d.1 (below_top (n * 10 + (b - 48)) (value_from (n * 10 + (b - 48)) ds) (10 ^ 64) grows small))
    ∙ append_assoc (decimal n) (b ∷ []) ds
  where
    positive : (n m : ℕ) → 0 < n → 0 < n * 10 + m
    positive n m p = omega arith

-- digits without a leading zero are the decimal of their value
plain_decimal : (ds : List ℕ) → list_all is_digit ds ≡ true → is_plain ds ≡ true → value_from 0 ds < 10 ^ 64 → decimal (value_from 0 ds) ≡ ds
plain_decimal [] h plain small = cc
plain_decimal (b ∷ []) h plain small =
    let t = and_true (is_digit b) true h in
    let d = digit_range b t.0 in
    one b d.0 d.1
  where
    one : (b : ℕ) → 48 ≤ b → b ≤ 57 → decimal (0 * 10 + (b - 48)) ≡ b ∷ []
    one b low high =
        let v : 0 * 10 + (b - 48) ≡ b - 48 = omega arith in
        let w : 48 + (b - 48) ≡ b = omega arith in
        ap decimal v ∙ decimal_digit (b - 48) (omega arith) ∙ ap (λ d. d ∷ []) w
plain_decimal (b ∷ c ∷ ds) h plain small =
    let t = and_true (is_digit b) (list_all is_digit (c ∷ ds)) h in
    let d = digit_range b t.0 in
    digits_behind (c ∷ ds) (0 * 10 + (b - 48)) (positive b d.0 plain) t.1 small ∙ ap (λ l. l ++ (c ∷ ds)) (one b d.0 d.1)
  where
    positive : (b : ℕ) → 48 ≤ b → not (b == 48) ≡ true → 0 < 0 * 10 + (b - 48)
    positive b low h = grind (arith, nat_tests)

    one : (b : ℕ) → 48 ≤ b → b ≤ 57 → decimal (0 * 10 + (b - 48)) ≡ b ∷ []
    one b low high =
        let v : 0 * 10 + (b - 48) ≡ b - 48 = omega arith in
        let w : 48 + (b - 48) ≡ b = omega arith in
        ap decimal v ∙ decimal_digit (b - 48) (omega arith) ∙ ap (λ d. d ∷ []) w

-- What decimals are -----------------------------------------------------------------------------------------------

abbrev begins_with_zero : List ℕ → Bool
begins_with_zero [] = true
begins_with_zero (b ∷ bytes) = b == 48

-- digits of a number, without a leading zero
record AreDigits (n : ℕ) (ds : List ℕ) : Type 0 where
  digits : list_all is_digit ds ≡ true
  value : value_from 0 ds ≡ n
  plain : is_plain ds ≡ true
  first : 0 < n → begins_with_zero ds ≡ false

digits_append : (ds : List ℕ) (d : ℕ) → list_all is_digit ds ≡ true → is_digit d ≡ true → list_all is_digit (ds ++ d ∷ []) ≡ true
digits_append [] d h e = both_true (is_digit d) true e refl
digits_append (b ∷ ds) d h e =
    let t = and_true (is_digit b) (list_all is_digit ds) h in
    both_true (is_digit b) (list_all is_digit (ds ++ d ∷ [])) t.0 (digits_append ds d t.1 e)

value_append : (ds : List ℕ) (n d : ℕ) → value_from n (ds ++ d ∷ []) ≡ value_from n ds * 10 + (d - 48)
value_append [] n d = refl
value_append (b ∷ ds) n d = value_append ds (n * 10 + (b - 48)) d

plain_append : (ds : List ℕ) (d : ℕ) → begins_with_zero ds ≡ false → is_plain (ds ++ d ∷ []) ≡ true
plain_append [] d h = cc
plain_append (b ∷ []) d h = ap not h
plain_append (b ∷ c ∷ ds) d h = ap not h

first_append : (ds : List ℕ) (d : ℕ) → begins_with_zero ds ≡ false → begins_with_zero (ds ++ d ∷ []) ≡ false
first_append [] d h = cc
first_append (b ∷ ds) d h = h

decimal_digits : (n : ℕ) → n < 10 ^ 64 → AreDigits n (decimal n)
decimal_digits n small = decimal_by_steps_wide AreDigits one more n small
  where
    one : (n : ℕ) → n < 10 → AreDigits n ((48 + n) ∷ [])
    one n lt =
        record {
          digits = both_true (is_digit (48 + n)) true (range_digit (48 + n) (omega arith) (omega arith)) refl;
          value = omega arith;
          plain = refl;
          first = λ p. grind (arith, nat_tests);
        }

    more : (n : ℕ) (ds : List ℕ) → 10 ≤ n → AreDigits (n / 10) ds → AreDigits n (ds ++ ((48 + n % 10) ∷ []))
    more n ds le h =
        let p : 0 < n / 10 = omega arith in
        let last : (48 ≤ 48 + n % 10) × (48 + n % 10 ≤ 57) = (omega arith, omega arith) in
        let v : value_from 0 ds ≡ n / 10 = h.value in
        record {
          digits = digits_append ds (48 + n % 10) h.digits (range_digit (48 + n % 10) last.0 last.1);
          value = value_append ds 0 (48 + n % 10) ∙ ap (λ m. m * 10 + (48 + n % 10 - 48)) v ∙ whole n;
          plain = plain_append ds (48 + n % 10) (h.first p);
          first = λ q. first_append ds (48 + n % 10) (h.first p);
        }
      where
        whole : (n : ℕ) → n / 10 * 10 + (48 + n % 10 - 48) ≡ n
        whole n = omega arith

-- Both ways -------------------------------------------------------------------------------------------------------

-- a decimal is read as its number
pub decimal_read : (limit n : ℕ) → limit < 10 ^ 64 → n ≤ limit → decimal_of limit (decimal n) ≡ Some n
decimal_read limit n small le =
    let d = decimal_digits n (below_top n limit (10 ^ 64) le small) in
    let fits : value_from 0 (decimal n) ≤ limit = subst (λ v. v ≤ limit) (sym d.value) le in
    ap (λ t. if t then number_from limit 0 (decimal n) else None) d.plain
    ∙ digits_read limit (decimal n) 0 d.digits fits
    ∙ ap (λ v. Some v) d.value

-- what is read as a number is its decimal
pub read_decimal : (limit : ℕ) (ds : List ℕ) (n : ℕ) → limit < 10 ^ 64 → decimal_of limit ds ≡ Some n → (ds ≡ decimal n) × (n ≤ limit)
read_decimal limit ds n small h =
    let t = under_test (is_plain ds) (number_from limit 0 ds) n h in
    let r = digits_sound limit ds 0 n (omega arith) t.1 in
    let low : value_from 0 ds < 10 ^ 64 = wide (value_from 0 ds) n r.1 r.2 in
    (sym (plain_decimal ds r.0 t.0 low) ∙ ap decimal r.1, r.2)
  where
    wide : (v n : ℕ) → v ≡ n → n ≤ limit → v < 10 ^ 64
    wide v n e le = below_top v limit (10 ^ 64) (subst (λ v. v ≤ limit) (sym e) le) small

digit_goes_on : (b : ℕ) → is_digit b ≡ true → not (ends_word b) ≡ true
digit_goes_on b h = grind (arith, nat_tests)

digits_go_on : (ds : List ℕ) → list_all is_digit ds ≡ true → list_all (λ b. not (ends_word b)) ds ≡ true
digits_go_on [] h = refl
digits_go_on (b ∷ ds) h =
    let t = and_true (is_digit b) (list_all is_digit ds) h in
    both_true (not (ends_word b)) (list_all (λ b. not (ends_word b)) ds) (digit_goes_on b t.0) (digits_go_on ds t.1)

-- no byte of a decimal ends a word
pub decimal_goes_on : (n : ℕ) → n < 10 ^ 64 → list_all (λ b. not (ends_word b)) (decimal n) ≡ true
decimal_goes_on n small = digits_go_on (decimal n) (decimal_digits n small).digits

-- a decimal begins with a digit
pub record BeginsWithDigit (ds : List ℕ) : Type 0 where
  pub first : ℕ
  pub rest : List ℕ
  pub whole : ds ≡ first ∷ rest
  pub digit : is_digit first ≡ true

pub decimal_begins : (n : ℕ) → n < 10 ^ 64 → BeginsWithDigit (decimal n)
decimal_begins n small = let d = decimal_digits n small in begins (decimal n) d.digits d.plain
  where
    begins : (ds : List ℕ) → list_all is_digit ds ≡ true → is_plain ds ≡ true → BeginsWithDigit ds
    begins [] h plain = cc
    begins (b ∷ ds) h plain =
        record { first = b; rest = ds; whole = refl; digit = (and_true (is_digit b) (list_all is_digit ds) h).0 }
