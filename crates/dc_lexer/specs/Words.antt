-- The words of a source, each taken alone (C11 6.4.1 to 6.4.6).
use Rattle.std.specs.Prelude.{◌≡◌, ℕ, ◌+◌, ◌*◌, ◌-◌, ◌⊎◌, Bool, true, false, ◌&&◌, ◌||◌, not, ◌==◌, nat_le, List, [], ◌∷◌, ◌++◌, codes, Contains, if◌then◌else◌}
use Rattle.std.specs.List.{list_all}
use Rattle.dc_text.specs.Words.{is_digit, is_word}
use Rattle.dc_lexer.specs.declared.kind.Kind.{Kind}
use Rattle.dc_lexer.specs.declared.kind.Kind.TheVariants.{Word, Integer, Character, Punctuator}

-- Integers (6.4.4.1) ------------------------------------------------------------------------------------------------

abbrev pub is_octal_digit : ℕ → Bool
is_octal_digit b = nat_le 48 b && nat_le b 55

abbrev pub is_hexadecimal_digit : ℕ → Bool
is_hexadecimal_digit b = is_digit b || (nat_le 97 b && nat_le b 102) || (nat_le 65 b && nat_le b 70)

-- `x` or `X`
abbrev pub is_hexadecimal_mark : ℕ → Bool
is_hexadecimal_mark b = b == 120 || b == 88

-- what a digit counts
abbrev pub digit_value : ℕ → ℕ
digit_value b = if is_digit b then b - 48 else (if nat_le 97 b then b - 87 else b - 55)

-- the number of digits behind a number
abbrev pub value_behind : ℕ → ℕ → List ℕ → ℕ
value_behind base n [] = n
value_behind base n (b ∷ bytes) = value_behind base (n * base + digit_value b) bytes

-- no zero is first
abbrev pub is_decimal : List ℕ → Bool
is_decimal [] = false
is_decimal (b ∷ bytes) = (nat_le 49 b && nat_le b 57) && list_all is_digit bytes

-- a zero is first
abbrev pub is_octal : List ℕ → Bool
is_octal [] = false
is_octal (b ∷ bytes) = b == 48 && list_all is_octal_digit bytes

-- `0x` and at least one digit
abbrev pub is_hexadecimal : List ℕ → Bool
is_hexadecimal (first ∷ mark ∷ digit ∷ bytes) = first == 48 && is_hexadecimal_mark mark && list_all is_hexadecimal_digit (digit ∷ bytes)
is_hexadecimal bytes = false

-- the suffixes in `u`, `l` and `ll`, in either order and case; the two letters of `ll` have one case
abbrev pub suffixes : List (List ℕ)
suffixes =
    [] ∷ codes "u" ∷ codes "U" ∷ codes "l" ∷ codes "L" ∷ codes "ll" ∷ codes "LL"
    ∷ codes "ul" ∷ codes "uL" ∷ codes "Ul" ∷ codes "UL" ∷ codes "ull" ∷ codes "uLL" ∷ codes "Ull" ∷ codes "ULL"
    ∷ codes "lu" ∷ codes "lU" ∷ codes "Lu" ∷ codes "LU" ∷ codes "llu" ∷ codes "llU" ∷ codes "LLu" ∷ codes "LLU" ∷ []

-- what stands behind the mark
abbrev pub hexadecimal_part : List ℕ → List ℕ
hexadecimal_part (first ∷ mark ∷ bytes) = bytes
hexadecimal_part bytes = bytes

-- digits of this value
abbrev pub HasValue : List ℕ → ℕ → Type 0
HasValue digits value =
    ((is_decimal digits ≡ true) × (value ≡ value_behind 10 0 digits))
    ⊎ (((is_octal digits ≡ true) × (value ≡ value_behind 8 0 digits))
    ⊎ ((is_hexadecimal digits ≡ true) × (value ≡ value_behind 16 0 (hexadecimal_part digits))))

-- an integer literal: its digits, which have a value, and its suffix
pub record IsInteger (word : List ℕ) : Type 0 where
  pub digits : List ℕ
  pub suffix : List ℕ
  pub whole : word ≡ digits ++ suffix
  pub value : ℕ
  pub has_value : HasValue digits value
  pub suffix_is : Contains suffixes suffix

-- Characters (6.4.4.4) ----------------------------------------------------------------------------------------------

-- a printable ASCII byte other than the quote and the backslash
abbrev pub is_plain_character : ℕ → Bool
is_plain_character b = nat_le 32 b && nat_le b 126 && not (b == 39) && not (b == 92)

-- what may stand behind a backslash
abbrev pub escapes : List ℕ
escapes = codes "ntr0\\'\""

-- between quotes
abbrev pub IsCharacter : List ℕ → Type 0
IsCharacter word =
    ((b : ℕ) × (is_plain_character b ≡ true) × (word ≡ 39 ∷ b ∷ 39 ∷ []))
    ⊎ ((b : ℕ) × Contains escapes b × (word ≡ 39 ∷ 92 ∷ b ∷ 39 ∷ []))

-- Punctuators (6.4.6) -----------------------------------------------------------------------------------------------

abbrev pub punctuators : List (List ℕ)
punctuators =
    codes "(" ∷ codes ")" ∷ codes "[" ∷ codes "]" ∷ codes "{" ∷ codes "}" ∷ codes ";" ∷ codes "," ∷ codes ":" ∷ codes "?"
    ∷ codes "." ∷ codes "->" ∷ codes "++" ∷ codes "--" ∷ codes "&" ∷ codes "*" ∷ codes "+" ∷ codes "-" ∷ codes "~" ∷ codes "!"
    ∷ codes "/" ∷ codes "%" ∷ codes "<<" ∷ codes ">>" ∷ codes "<" ∷ codes ">" ∷ codes "<=" ∷ codes ">=" ∷ codes "==" ∷ codes "!="
    ∷ codes "^" ∷ codes "|" ∷ codes "&&" ∷ codes "||" ∷ codes "==>" ∷ codes "=" ∷ codes "*=" ∷ codes "/=" ∷ codes "%=" ∷ codes "+="
    ∷ codes "-=" ∷ codes "<<=" ∷ codes ">>=" ∷ codes "&=" ∷ codes "^=" ∷ codes "|=" ∷ []

-- Tokens --------------------------------------------------------------------------------------------------------------

abbrev pub IsOfKind : Kind → List ℕ → Type 0
IsOfKind Word word = is_word word ≡ true
IsOfKind Integer word = IsInteger word
IsOfKind Character word = IsCharacter word
IsOfKind Punctuator word = Contains punctuators word

pub record IsToken (word : List ℕ) : Type 0 where
  pub kind : Kind
  pub is : IsOfKind kind word
