-- How the pieces of a source are found from its bytes, from the front on.
use Rattle.std.specs.Prelude.{ℕ, ◌+◌, ◌^◌, ◌≤◌, Bool, false, ◌&&◌, ◌||◌, not, ◌==◌, nat_eq, List, [], ◌∷◌, take, drop, codes, if◌then◌else◌, Option, None, Some}
use Rattle.std.specs.List.{list_any, prefix_len, starts_with}
use Rattle.std.specs.Option.{option_map}
use Rattle.dc_text.specs.Words.{is_digit, is_letter, is_word_part}
use Rattle.dc_lexer.specs.Words.{is_octal_digit, is_hexadecimal_digit, is_hexadecimal_mark, is_plain_character, value_behind}
use Rattle.dc_lexer.specs.Pieces.{is_blank, is_newline}
use Rattle.dc_lexer.specs.declared.kind.Kind.{Kind}
use Rattle.dc_lexer.specs.declared.kind.Kind.TheVariants.{Word, Integer, Character, Punctuator}

-- Words -----------------------------------------------------------------------------------------------------------

-- how many bytes the word in front has, or 0
abbrev pub word_len : List ℕ → ℕ
word_len [] = 0
word_len (b ∷ bytes) = if is_letter b then 1 + prefix_len is_word_part bytes else 0

-- Integers ----------------------------------------------------------------------------------------------------------

-- how many bytes of a number stand behind a zero
abbrev pub zero_len : List ℕ → ℕ
zero_len [] = 0
zero_len (b ∷ []) = prefix_len is_octal_digit (b ∷ [])
zero_len (mark ∷ digit ∷ bytes) =
    if is_hexadecimal_mark mark && is_hexadecimal_digit digit then 2 + prefix_len is_hexadecimal_digit bytes
    else prefix_len is_octal_digit (mark ∷ digit ∷ bytes)

-- the digits of a number
abbrev pub digits_len : List ℕ → ℕ
digits_len [] = 0
digits_len (b ∷ bytes) =
    if b == 48 then 1 + zero_len bytes else (if is_digit b then 1 + prefix_len is_digit bytes else 0)

-- `u` or `U`
abbrev pub is_unsigned_mark : ℕ → Bool
is_unsigned_mark b = b == 117 || b == 85

-- `l` or `L`
abbrev pub is_long_mark : ℕ → Bool
is_long_mark b = b == 108 || b == 76

-- the same letter again
abbrev pub again_len : ℕ → List ℕ → ℕ
again_len a [] = 0
again_len a (b ∷ bytes) = if b == a then 1 else 0

-- `l` or `ll`
abbrev pub long_len : List ℕ → ℕ
long_len [] = 0
long_len (b ∷ bytes) = if is_long_mark b then 1 + again_len b bytes else 0

abbrev pub unsigned_len : List ℕ → ℕ
unsigned_len [] = 0
unsigned_len (b ∷ bytes) = if is_unsigned_mark b then 1 else 0

-- what stands of a suffix behind an `l`
abbrev pub long_rest_len : ℕ → List ℕ → ℕ
long_rest_len a [] = 0
long_rest_len a (b ∷ bytes) = if b == a then 1 + unsigned_len bytes else unsigned_len (b ∷ bytes)

-- a suffix
abbrev pub suffix_len : List ℕ → ℕ
suffix_len [] = 0
suffix_len (b ∷ bytes) =
    if is_unsigned_mark b then 1 + long_len bytes else (if is_long_mark b then 1 + long_rest_len b bytes else 0)

abbrev pub len_with_suffix : ℕ → List ℕ → ℕ
len_with_suffix digits bytes = if digits == 0 then 0 else digits + suffix_len (drop digits bytes)

-- an integer with its suffix
abbrev pub integer_len : List ℕ → ℕ
integer_len bytes = len_with_suffix (digits_len bytes) bytes

-- what a number counts whose zero is taken off
abbrev pub zero_value : List ℕ → ℕ
zero_value [] = 0
zero_value (b ∷ bytes) = if is_hexadecimal_mark b then value_behind 16 0 bytes else value_behind 8 0 (b ∷ bytes)

-- what these digits count
abbrev pub digits_value : List ℕ → ℕ
digits_value [] = 0
digits_value (b ∷ bytes) = if b == 48 then zero_value bytes else value_behind 10 0 (b ∷ bytes)

-- Characters --------------------------------------------------------------------------------------------------------

abbrev pub is_escape : ℕ → Bool
is_escape b = b == 110 || b == 116 || b == 114 || b == 48 || b == 92 || b == 39 || b == 34

-- a character whose quote and backslash stand in front
abbrev pub escaped_len : ℕ → List ℕ → ℕ
escaped_len b [] = 0
escaped_len b (quote ∷ bytes) = if is_escape b && quote == 39 then 4 else 0

-- a character whose quote stands in front
abbrev pub quoted_len : List ℕ → ℕ
quoted_len [] = 0
quoted_len (b ∷ []) = 0
quoted_len (b ∷ c ∷ bytes) = if b == 92 then escaped_len c bytes else (if is_plain_character b && c == 39 then 3 else 0)

abbrev pub character_len : List ℕ → ℕ
character_len [] = 0
character_len (b ∷ bytes) = if b == 39 then quoted_len bytes else 0

-- Punctuators -------------------------------------------------------------------------------------------------------

abbrev pub is_among : List ℕ → ℕ → Bool
is_among bytes b = list_any (λ y. nat_eq y b) bytes

abbrev pub singles : List ℕ
singles = codes "()[]{};,:?.~&*+-!/%<>^|="

-- what may stand before a `=`
abbrev pub before_equals : List ℕ
before_equals = codes "<>=!*/%+-&^|"

-- what may stand twice
abbrev pub twice : List ℕ
twice = codes "+-<>&|"

abbrev pub is_single : ℕ → Bool
is_single b = is_among singles b

abbrev pub is_pair : ℕ → ℕ → Bool
is_pair a b = (b == 61 && is_among before_equals a) || (b == a && is_among twice a) || (a == 45 && b == 62)

abbrev pub is_triple : ℕ → ℕ → ℕ → Bool
is_triple a b c = b == a && ((a == 61 && c == 62) || (c == 61 && (a == 60 || a == 62)))

abbrev pub begins_pair : ℕ → List ℕ → Bool
begins_pair a [] = false
begins_pair a (b ∷ bytes) = is_pair a b

abbrev pub begins_triple : ℕ → List ℕ → Bool
begins_triple a [] = false
begins_triple a (b ∷ []) = false
begins_triple a (b ∷ c ∷ bytes) = is_triple a b c

abbrev pub punctuator_len : List ℕ → ℕ
punctuator_len [] = 0
punctuator_len (a ∷ bytes) =
    if begins_triple a bytes then 3 else (if begins_pair a bytes then 2 else (if is_single a then 1 else 0))

-- Tokens ------------------------------------------------------------------------------------------------------------

-- the kind of the tokens that begin with the byte
abbrev pub kind_of : ℕ → Kind
kind_of b = if is_letter b then Word else (if is_digit b then Integer else (if b == 39 then Character else Punctuator))

abbrev pub len_of : Kind → List ℕ → ℕ
len_of Word bytes = word_len bytes
len_of Integer bytes = integer_len bytes
len_of Character bytes = character_len bytes
len_of Punctuator bytes = punctuator_len bytes

abbrev pub front_kind : List ℕ → Kind
front_kind [] = Punctuator
front_kind (b ∷ bytes) = kind_of b

-- how many bytes the token in front has, or 0
abbrev pub token_len : List ℕ → ℕ
token_len bytes = len_of (front_kind bytes) bytes

-- Separators --------------------------------------------------------------------------------------------------------

abbrev pub begins_with : ℕ → List ℕ → Bool
begins_with a [] = false
begins_with a (b ∷ bytes) = b == a

abbrev pub is_in_line : ℕ → Bool
is_in_line b = not (is_newline b)

-- how many bytes stand up to the end of a block comment, with its `*/`
abbrev pub close_len : List ℕ → Option ℕ
close_len [] = None
close_len (a ∷ bytes) = if a == 42 && begins_with 47 bytes then Some 2 else option_map (λ n. 1 + n) (close_len bytes)

abbrev pub block_len : Option ℕ → ℕ
block_len None = 0
block_len (Some n) = 2 + n

-- a comment whose first slash is taken off, or 0
abbrev pub comment_len : List ℕ → ℕ
comment_len [] = 0
comment_len (b ∷ bytes) =
    if b == 47 then 2 + prefix_len is_in_line bytes else (if b == 42 then block_len (close_len bytes) else 0)

-- the blank or comment in front, or 0
abbrev pub quiet_len : List ℕ → ℕ
quiet_len [] = 0
quiet_len (b ∷ bytes) = if is_blank b then 1 else (if b == 47 then comment_len bytes else 0)

-- `//` or `/*` stands in front
abbrev pub goes_on_as_comment : List ℕ → Bool
goes_on_as_comment [] = false
goes_on_as_comment (b ∷ bytes) = b == 47 || b == 42

abbrev pub begins_comment : List ℕ → Bool
begins_comment [] = false
begins_comment (b ∷ bytes) = b == 47 && goes_on_as_comment bytes

-- Directives --------------------------------------------------------------------------------------------------------

-- whether only blanks stand behind the last newline, where before these bytes they do or don't
abbrev pub at_start : Bool → List ℕ → Bool
at_start fresh [] = fresh
at_start fresh (b ∷ bytes) = at_start (is_newline b || (fresh && is_blank b)) bytes

-- a digit and what follows in its line, or 0
abbrev pub mark_len : List ℕ → ℕ
mark_len [] = 0
mark_len (b ∷ bytes) = if is_digit b then 1 + prefix_len is_in_line bytes else 0

abbrev pub len_behind : ℕ → ℕ → ℕ
len_behind blanks len = if len == 0 then 0 else blanks + len

-- blanks, and a length behind them, or 0
abbrev pub blanks_and : (List ℕ → ℕ) → List ℕ → ℕ
blanks_and len bytes = len_behind (prefix_len is_blank bytes) (len (drop (prefix_len is_blank bytes) bytes))

-- `#`, and a length behind it, or 0
abbrev pub hash_and : (List ℕ → ℕ) → List ℕ → ℕ
hash_and len [] = 0
hash_and len (b ∷ bytes) = if b == 35 then len_behind 1 (len bytes) else 0

abbrev pub marker_len : List ℕ → ℕ
marker_len bytes = hash_and (blanks_and mark_len) bytes

abbrev pub begins : List ℕ → List ℕ → Bool
begins word bytes = starts_with nat_eq bytes word

-- the header in front in its brackets, or 0
abbrev pub header_len : List ℕ → ℕ
header_len bytes =
    if begins (codes "<assert.h>") bytes || begins (codes "<limits.h>") bytes || begins (codes "<stddef.h>") bytes
    || begins (codes "<stdint.h>") bytes || begins (codes "<stdlib.h>") bytes || begins (codes "<string.h>") bytes then 10
    else (if begins (codes "<stdbool.h>") bytes then 11 else 0)

abbrev pub named_len : List ℕ → ℕ
named_len bytes =
    if begins (codes "include") bytes then len_behind 7 (blanks_and header_len (drop 7 bytes)) else 0

abbrev pub include_len : List ℕ → ℕ
include_len bytes = hash_and (blanks_and named_len) bytes

-- Lexemes -----------------------------------------------------------------------------------------------------------

-- a token in front where no comment begins, or 0
abbrev pub lexeme_len : List ℕ → ℕ
lexeme_len bytes = if begins_comment bytes then 0 else token_len bytes

-- what the digits of an integer count
abbrev pub word_value : List ℕ → ℕ
word_value word = digits_value (take (digits_len word) word)

-- an integer of 2^64 or more
abbrev pub IsWide : Kind → List ℕ → Type 0
IsWide Word word = ⊥
IsWide Integer word = 2 ^ 64 ≤ word_value word
IsWide Character word = ⊥
IsWide Punctuator word = ⊥
