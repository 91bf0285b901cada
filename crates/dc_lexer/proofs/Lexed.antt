-- The token in front, of any kind.
use Rattle.std.proofs.Common.{◌≡◌, ℕ, ◌+◌, ◌≤◌, ◌<◌, Bool, true, false, cond, ◌&&◌, not, inl, inr, List, [], ◌∷◌, ◌++◌, length, refl, sym, ap, subst, ◌∙◌, arith}
use Rattle.std.specs.Prelude.{◌==◌, nat_le}
use Rattle.std.specs.List.{list_all}
use Rattle.std.proofs.lemmas.Bool.{and_parts, and_from, false≢true}
use Rattle.std.proofs.lemmas.Bool.Decides.{nat_tests}
use Rattle.std.proofs.lemmas.List.Sums.{sum_by-append}
use Rattle.dc_text.specs.Words.{is_digit, is_letter, is_word_part}
use Rattle.dc_lexer.specs.Words.{punctuators, suffixes, escapes, is_plain_character, IsOfKind, IsToken, is_octal_digit, is_hexadecimal_digit, is_hexadecimal_mark}
use Rattle.dc_lexer.specs.Pieces.{is_newline, newlines}
use Rattle.dc_lexer.specs.Reading.{is_in_line, kind_of, len_of, front_kind, token_len}
use Rattle.dc_lexer.specs.declared.kind.Kind.{Kind}
use Rattle.dc_lexer.specs.declared.kind.Kind.TheVariants.{Word, Integer, Character, Punctuator}
use Rattle.dc_lexer.proofs.Longest.{Front, Measures}
use Rattle.dc_lexer.proofs.Spans.{Passes, all_at, all_both, all_weaker}
use Rattle.dc_lexer.proofs.Worded.{word_measured}
use Rattle.dc_lexer.proofs.Numbers.{Number, Decimal, Octal, Hexadecimal, number_parts}
use Rattle.dc_lexer.proofs.Literals.{integer_measured}
use Rattle.dc_lexer.proofs.Quoted.{character_measured}
use Rattle.dc_lexer.proofs.Marks.{mark_measured}

pub measured : (kind : Kind) → Measures (IsOfKind kind) (len_of kind)
measured Word = word_measured
measured Integer = integer_measured
measured Character = character_measured
measured Punctuator = mark_measured

-- The first byte tells the kind -------------------------------------------------------------------------------------

word_begins : (b : ℕ) → is_letter b ≡ true → kind_of b ≡ Word
word_begins b e = ap (λ t. cond t Word (cond (is_digit b) Integer (cond (b == 39) Character Punctuator))) e

digit_begins : (b : ℕ) → is_digit b ≡ true → kind_of b ≡ Integer
digit_begins b e =
    let no_letter : is_letter b ≡ false = grind (arith, nat_tests) in
    ap (λ t. cond t Word (cond (is_digit b) Integer (cond (b == 39) Character Punctuator))) no_letter
    ∙ ap (λ t. cond t Integer (cond (b == 39) Character Punctuator)) e

decimal_digit : (b : ℕ) → (nat_le 49 b && nat_le b 57) ≡ true → is_digit b ≡ true
decimal_digit b e = grind (arith, nat_tests)

zero_digit : (b : ℕ) → (b == 48) ≡ true → is_digit b ≡ true
zero_digit b e = grind (arith, nat_tests)

abbrev is_other : Kind → Bool
is_other Punctuator = true
is_other Word = false
is_other Integer = false
is_other Character = false

abbrev begins_other : List ℕ → Bool
begins_other [] = false
begins_other (b ∷ word) = is_other (kind_of b)

other_is : (kind : Kind) → is_other kind ≡ true → kind ≡ Punctuator
other_is Punctuator e = refl
other_is Word e = absurd (false≢true e)
other_is Integer e = absurd (false≢true e)
other_is Character e = absurd (false≢true e)

pub kind_begins : (kind : Kind) (word : List ℕ) → IsOfKind kind word → front_kind word ≡ kind
kind_begins Word [] is = absurd (false≢true is)
kind_begins Word (b ∷ word) is = word_begins b (and_parts (is_letter b) (list_all is_word_part word) is).0
kind_begins Integer word is = ap front_kind is.whole ∙ by_parts (number_parts is.digits is.value is.has_value)
  where
    by_parts : Number is.digits is.value → front_kind (is.digits ++ is.suffix) ≡ Integer
    by_parts (Decimal b digits e f g h) = ap (λ d. front_kind (d ++ is.suffix)) e ∙ digit_begins b (decimal_digit b f)
    by_parts (Octal b digits e f g h) = ap (λ d. front_kind (d ++ is.suffix)) e ∙ digit_begins b (zero_digit b f)
    by_parts (Hexadecimal b mark digit digits e f g h i j) = ap (λ d. front_kind (d ++ is.suffix)) e ∙ digit_begins b (zero_digit b f)
kind_begins Character word (inl h) = ap front_kind h.2
kind_begins Character word (inr h) = ap front_kind h.2
kind_begins Punctuator [] is = absurd (false≢true (all_at begins_other punctuators [] refl is))
kind_begins Punctuator (b ∷ word) is = other_is (kind_of b) (all_at begins_other punctuators (b ∷ word) refl is)

-- The token in front ------------------------------------------------------------------------------------------------

token_there : (word : List ℕ) → IsToken word → 0 < length word
token_there word is = (measured is.kind).there word is.is

front_kind_more : (word rest : List ℕ) → 0 < length word → front_kind (word ++ rest) ≡ front_kind word
front_kind_more [] rest some = absurd (omega arith)
front_kind_more (b ∷ word) rest some = refl

token_sound : (bytes : List ℕ) → 0 < token_len bytes → Front IsToken bytes (token_len bytes)
token_sound bytes some =
    let f = (measured (front_kind bytes)).sound bytes some in
    record { word = f.word; rest = f.rest; whole = f.whole; len_is = f.len_is; is = record { kind = front_kind bytes; is = f.is } }

token_whole : (word rest : List ℕ) → IsToken word → length word ≤ token_len (word ++ rest)
token_whole word rest is =
    let some : 0 < length word = token_there word is in
    let kind : is.kind ≡ front_kind (word ++ rest) = sym (front_kind_more word rest some ∙ kind_begins is.kind word is.is) in
    subst (λ kind. length word ≤ len_of kind (word ++ rest)) kind ((measured is.kind).whole word rest is.is)

pub token_measured : Measures IsToken token_len
token_measured = record { sound = token_sound; whole = token_whole; there = token_there }

-- a token has one kind
pub one_kind : (kind kind' : Kind) (word : List ℕ) → IsOfKind kind word → IsOfKind kind' word → kind ≡ kind'
one_kind kind kind' word is is' = sym (kind_begins kind word is) ∙ kind_begins kind' word is'

-- No newline is in a token ------------------------------------------------------------------------------------------

letter_in_line : (b : ℕ) → is_letter b ≡ true → is_in_line b ≡ true
letter_in_line b e = grind (arith, nat_tests)

part_in_line : (b : ℕ) → is_word_part b ≡ true → is_in_line b ≡ true
part_in_line b e = grind (arith, nat_tests)

digit_in_line : (b : ℕ) → is_digit b ≡ true → is_in_line b ≡ true
digit_in_line b e = grind (arith, nat_tests)

octal_in_line : (b : ℕ) → is_octal_digit b ≡ true → is_in_line b ≡ true
octal_in_line b e = grind (arith, nat_tests)

hexadecimal_in_line : (b : ℕ) → is_hexadecimal_digit b ≡ true → is_in_line b ≡ true
hexadecimal_in_line b e = grind (arith, nat_tests)

mark_in_line : (b : ℕ) → is_hexadecimal_mark b ≡ true → is_in_line b ≡ true
mark_in_line b e = grind (arith, nat_tests)

plain_in_line : (b : ℕ) → is_plain_character b ≡ true → is_in_line b ≡ true
plain_in_line b e = grind (arith, nat_tests)

kind_in_line : (kind : Kind) (word : List ℕ) → IsOfKind kind word → Passes is_in_line word
kind_in_line Word [] is = refl
kind_in_line Word (b ∷ word) is =
    let parts = and_parts (is_letter b) (list_all is_word_part word) is in
    and_from (is_in_line b) (list_all is_in_line word) (letter_in_line b parts.0) (all_weaker is_word_part is_in_line part_in_line word parts.1)
kind_in_line Integer word is =
    subst (Passes is_in_line) (sym is.whole) (all_both is_in_line is.digits is.suffix (by_parts (number_parts is.digits is.value is.has_value)) (all_at (list_all is_in_line) suffixes is.suffix refl is.suffix_is))
  where
    by_parts : Number is.digits is.value → Passes is_in_line is.digits
    by_parts (Decimal b digits e f g h) =
        subst (Passes is_in_line) (sym e) (and_from (is_in_line b) (list_all is_in_line digits) (digit_in_line b (decimal_digit b f)) (all_weaker is_digit is_in_line digit_in_line digits g))
    by_parts (Octal b digits e f g h) =
        subst (Passes is_in_line) (sym e) (and_from (is_in_line b) (list_all is_in_line digits) (digit_in_line b (zero_digit b f)) (all_weaker is_octal_digit is_in_line octal_in_line digits g))
    by_parts (Hexadecimal b mark digit digits e f g h i j) =
        subst (Passes is_in_line) (sym e) (and_from (is_in_line b) (list_all is_in_line (mark ∷ digit ∷ digits)) (digit_in_line b (zero_digit b f))
        (and_from (is_in_line mark) (list_all is_in_line (digit ∷ digits)) (mark_in_line mark g)
        (and_from (is_in_line digit) (list_all is_in_line digits) (hexadecimal_in_line digit h) (all_weaker is_hexadecimal_digit is_in_line hexadecimal_in_line digits i))))
kind_in_line Character word (inl h) =
    subst (Passes is_in_line) (sym h.2) (and_from (is_in_line h.0) true (plain_in_line h.0 h.1) refl)
kind_in_line Character word (inr h) =
    subst (Passes is_in_line) (sym h.2) (and_from (is_in_line h.0) true (all_at is_in_line escapes h.0 refl h.1) refl)
kind_in_line Punctuator word is = all_at (list_all is_in_line) punctuators word refl is

pub newlines_append : (xs ys : List ℕ) → newlines (xs ++ ys) ≡ newlines xs + newlines ys
newlines_append xs ys = sum_by-append (λ b. cond (is_newline b) 1 0) xs ys

pub no_newlines : (word : List ℕ) → Passes is_in_line word → newlines word ≡ 0
no_newlines [] all = refl
no_newlines (b ∷ word) all =
    let parts = and_parts (is_in_line b) (list_all is_in_line word) all in
    let rest : newlines word ≡ 0 = no_newlines word parts.1 in
    newlines_append (b ∷ []) word ∙ ap (λ t. (0 + cond t 1 0) + newlines word) (not_true (is_newline b) parts.0) ∙ ap (λ n. 0 + n) rest
  where
    not_true : (t : Bool) → not t ≡ true → t ≡ false
    not_true true e = absurd (false≢true e)
    not_true false e = refl

pub token_newlines : (kind : Kind) (word : List ℕ) → IsOfKind kind word → newlines word ≡ 0
token_newlines kind word is = no_newlines word (kind_in_line kind word is)
