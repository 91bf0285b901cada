-- Integers: their digits and their suffix.
use Rattle.std.proofs.Common.{◌≡◌, ℕ, zero, suc, ◌+◌, ◌≤◌, ◌<◌, cond, List, [], ◌∷◌, ◌++◌, length, drop, refl, sym, ap, subst, ◌∙◌, arith, append_assoc, length-append}
use Rattle.std.specs.List.{Contains}
use Rattle.std.proofs.lemmas.List.{drop_at}
use Rattle.std.proofs.lemmas.Bool.{ne_eqb}
use Rattle.dc_lexer.specs.Words.{suffixes, HasValue, IsInteger}
use Rattle.dc_lexer.specs.Reading.{digits_len, digits_value, suffix_len, len_with_suffix, integer_len}
use Rattle.dc_lexer.proofs.Longest.{Front, Measures}
use Rattle.dc_lexer.proofs.Numbers.{EndsDigits, digits_front, digits_reach, digits_exact, number_parts, Number, Decimal, Octal, Hexadecimal}
use Rattle.dc_lexer.proofs.Suffixed.{suffix_front, suffix_whole, suffix_begins}

with_suffix : (n : ℕ) (bytes : List ℕ) → 0 < n → len_with_suffix n bytes ≡ n + suffix_len (drop n bytes)
with_suffix n bytes some = ap (λ t. cond t 0 (n + suffix_len (drop n bytes))) (ne_eqb n 0 (λ e. omega arith))

-- the digits with what stands behind them
behind_digits : (digits rest : List ℕ) → 0 < length digits → len_with_suffix (length digits) (digits ++ rest) ≡ length digits + suffix_len rest
behind_digits digits rest some = with_suffix (length digits) (digits ++ rest) some ∙ ap (λ r. length digits + suffix_len r) (drop_at digits rest (length digits) refl)

integer_sound : (bytes : List ℕ) → 0 < integer_len bytes → Front IsInteger bytes (integer_len bytes)
integer_sound bytes some = by_digits (digits_len bytes) refl
  where
    by_digits : (n : ℕ) → digits_len bytes ≡ n → Front IsInteger bytes (integer_len bytes)
    by_digits zero e = absurd (let none : integer_len bytes ≡ 0 = ap (λ n. len_with_suffix n bytes) e in omega arith)
    by_digits (suc n) e =
        let d = digits_front bytes (omega arith) in
        let s = suffix_front d.rest in
        let digits : length d.word ≡ digits_len bytes = d.len_is in
        let there : 0 < length d.word = omega arith in
        let suffix : length s.word ≡ suffix_len d.rest = s.len_is in
        let both : length (d.word ++ s.word) ≡ length d.word + length s.word = length-append d.word s.word in
        let same : integer_len bytes ≡ length d.word + suffix_len d.rest =
        ap (λ n. len_with_suffix n bytes) (sym digits) ∙ ap (len_with_suffix (length d.word)) d.whole ∙ behind_digits d.word d.rest there in
        record {
          word = d.word ++ s.word;
          rest = s.rest;
          whole = d.whole ∙ ap (λ r. d.word ++ r) s.whole ∙ sym (append_assoc d.word s.word s.rest);
          len_is = omega arith;
          is = record { digits = d.word; suffix = s.word; whole = refl; value = digits_value d.word; has_value = d.is; suffix_is = s.is };
        }

pub number_there : (digits : List ℕ) (value : ℕ) → HasValue digits value → 0 < length digits
number_there digits value is = by_parts (number_parts digits value is)
  where
    by_parts : Number digits value → 0 < length digits
    by_parts (Decimal b word e f g h) = let n : length digits ≡ suc (length word) = ap length e in omega arith
    by_parts (Octal b word e f g h) = let n : length digits ≡ suc (length word) = ap length e in omega arith
    by_parts (Hexadecimal b mark digit word e f g h i j) = let n : length digits ≡ suc (suc (suc (length word))) = ap length e in omega arith

-- digits end before a suffix
ends_before : (b : ℕ) (suffix rest : List ℕ) → Contains suffixes (b ∷ suffix) → EndsDigits ((b ∷ suffix) ++ rest)
ends_before b suffix rest is = suffix_begins b suffix is

-- what is found is as long as the digits and the suffix
parts_reach : (digits suffix rest : List ℕ) (value : ℕ) → HasValue digits value → Contains suffixes suffix → length digits + length suffix ≤ integer_len (digits ++ (suffix ++ rest))
parts_reach digits [] rest value has is =
    let low : length digits ≤ digits_len (digits ++ rest) = digits_reach digits value rest has in
    let some : 0 < length digits = number_there digits value has in
    let e : integer_len (digits ++ rest) ≡ digits_len (digits ++ rest) + suffix_len (drop (digits_len (digits ++ rest)) (digits ++ rest)) = with_suffix (digits_len (digits ++ rest)) (digits ++ rest) (omega arith) in
    omega arith
parts_reach digits (b ∷ suffix) rest value has is =
    let behind : List ℕ = (b ∷ suffix) ++ rest in
    let exact : digits_len (digits ++ behind) ≡ length digits = digits_exact digits value behind has (ends_before b suffix rest is) in
    let some : 0 < length digits = number_there digits value has in
    let low : length (b ∷ suffix) ≤ suffix_len behind = suffix_whole (b ∷ suffix) rest is in
    let e : integer_len (digits ++ behind) ≡ length digits + suffix_len behind = ap (λ n. len_with_suffix n (digits ++ behind)) exact ∙ behind_digits digits behind some in
    let sum : length digits + length (b ∷ suffix) ≤ length digits + suffix_len behind = omega arith in
    subst (λ n. length digits + length (b ∷ suffix) ≤ n) (sym e) sum

integer_whole : (word rest : List ℕ) → IsInteger word → length word ≤ integer_len (word ++ rest)
integer_whole word rest is =
    let both : length word ≡ length is.digits + length is.suffix = ap length is.whole ∙ length-append is.digits is.suffix in
    let low : length is.digits + length is.suffix ≤ integer_len (is.digits ++ (is.suffix ++ rest)) = parts_reach is.digits is.suffix rest is.value is.has_value is.suffix_is in
    let same : is.digits ++ (is.suffix ++ rest) ≡ word ++ rest = sym (append_assoc is.digits is.suffix rest) ∙ ap (λ w. w ++ rest) (sym is.whole) in
    let low' : length is.digits + length is.suffix ≤ integer_len (word ++ rest) = subst (λ b. length is.digits + length is.suffix ≤ integer_len b) same low in
    omega arith

integer_there : (word : List ℕ) → IsInteger word → 0 < length word
integer_there word is =
    let both : length word ≡ length is.digits + length is.suffix = ap length is.whole ∙ length-append is.digits is.suffix in
    let some : 0 < length is.digits = number_there is.digits is.value is.has_value in
    omega arith

pub integer_measured : Measures IsInteger integer_len
integer_measured = record { sound = integer_sound; whole = integer_whole; there = integer_there }

-- The digits of an integer -----------------------------------------------------------------------------------------

suffix_ends : (suffix : List ℕ) → Contains suffixes suffix → EndsDigits suffix
suffix_ends [] is = tt
suffix_ends (b ∷ suffix) is = suffix_begins b suffix is

-- its digits are those that are found
pub digits_found : (word : List ℕ) (is : IsInteger word) → digits_len word ≡ length is.digits
digits_found word is = ap digits_len is.whole ∙ digits_exact is.digits is.value is.suffix is.has_value (suffix_ends is.suffix is.suffix_is)
