-- The tokens of a source: its bytes are cut in pieces, and each piece is chosen among all prefixes of what is left.
use Rattle.std.specs.Prelude.{◌≡◌, ◌≢◌, ℕ, suc, ◌+◌, ◌<◌, ◌≤◌, ◌^◌, ◌⊎◌, Bool, true, ◌||◌, ◌==◌, List, [], ◌∷◌, ◌++◌, length, flat_map, codes, Contains, count_by}
use Rattle.std.specs.List.{list_all}
use Rattle.dc_text.specs.Words.{is_digit}
use Rattle.dc_lexer.specs.Words.{IsOfKind, IsToken, IsInteger}
use Rattle.dc_lexer.specs.declared.kind.Kind.{Kind}
use Rattle.dc_lexer.specs.declared.kind.Kind.TheVariants.{Word, Integer, Character, Punctuator}

-- Prefixes ----------------------------------------------------------------------------------------------------------

-- the word is P, and with more of what is behind it it isn't
pub record IsLongest (P : List ℕ → Type 0) (word behind : List ℕ) : Type 0 where
  pub is : P word
  pub longest : (more rest : List ℕ) → behind ≡ more ++ rest → P (word ++ more) → more ≡ []

-- the word is P, and no part of it from its front on is
pub record IsShortest (P : List ℕ → Type 0) (word : List ℕ) : Type 0 where
  pub is : P word
  pub shortest : (front rest : List ℕ) → word ≡ front ++ rest → P front → rest ≡ []

-- Separators --------------------------------------------------------------------------------------------------------

-- a space, a tab or a carriage return
abbrev pub is_blank : ℕ → Bool
is_blank b = b == 32 || b == 9 || b == 13

abbrev pub is_newline : ℕ → Bool
is_newline b = b == 10

abbrev pub newlines : List ℕ → ℕ
newlines bytes = count_by is_newline bytes

-- no newline is among the bytes
abbrev pub IsInLine : List ℕ → Type 0
IsInLine bytes = newlines bytes ≡ 0

abbrev pub AreBlanks : List ℕ → Type 0
AreBlanks bytes = list_all is_blank bytes ≡ true

-- `//` and what follows in its line (6.4.9)
abbrev pub IsLineComment : List ℕ → Type 0
IsLineComment word = (text : List ℕ) × IsInLine text × (word ≡ codes "//" ++ text)

-- `/*`, a text, `*/`
abbrev pub IsBlockComment : List ℕ → Type 0
IsBlockComment word = (text : List ℕ) × (word ≡ codes "/*" ++ (text ++ codes "*/"))

-- one blank, or a whole comment
abbrev pub IsQuietGap : List ℕ → List ℕ → Type 0
IsQuietGap gap behind =
    ((b : ℕ) × (is_blank b ≡ true) × (gap ≡ b ∷ []))
    ⊎ (IsLongest IsLineComment gap behind ⊎ IsShortest IsBlockComment gap)

-- these stand one behind the other, before what is behind them all
abbrev pub AreQuiet : List (List ℕ) → List ℕ → Type 0
AreQuiet [] behind = Unit {0}
AreQuiet (gap ∷ gaps) behind = IsQuietGap gap (flat_map (λ g. g) gaps ++ behind) × AreQuiet gaps behind

-- nothing but blanks and comments stands before the end, or the next newline that is in no comment
pub record IsQuiet (behind : List ℕ) : Type 0 where
  pub gaps : List (List ℕ)
  pub rest : List ℕ
  pub whole : behind ≡ flat_map (λ g. g) gaps ++ rest
  pub quiet : AreQuiet gaps rest
  pub ends : (rest ≡ []) ⊎ ((more : List ℕ) × (rest ≡ 10 ∷ more))

-- only blanks stand behind the last newline
pub record IsAtLineStart (before : List ℕ) : Type 0 where
  pub lines : List ℕ
  pub blanks : List ℕ
  pub whole : before ≡ lines ++ blanks
  pub blank : AreBlanks blanks
  pub ends : (lines ≡ []) ⊎ ((front : List ℕ) × (lines ≡ front ++ 10 ∷ []))

-- `#`, any blanks, a digit, and what follows in its line
abbrev pub IsLineMarker : List ℕ → Type 0
IsLineMarker word =
    (blanks text : List ℕ) × (digit : ℕ) × AreBlanks blanks × (is_digit digit ≡ true) × IsInLine text × (word ≡ 35 ∷ (blanks ++ digit ∷ text))

-- the headers whose names are predefined
abbrev pub headers : List (List ℕ)
headers =
    codes "assert.h" ∷ codes "limits.h" ∷ codes "stdbool.h" ∷ codes "stddef.h" ∷ codes "stdint.h" ∷ codes "stdlib.h" ∷ codes "string.h" ∷ []

-- `#`, any blanks, `include`, any blanks, and one of these names in its brackets
pub record IsInclude (word : List ℕ) : Type 0 where
  pub blanks : List ℕ
  pub others : List ℕ
  pub header : List ℕ
  pub blank : AreBlanks blanks
  pub other : AreBlanks others
  pub known : Contains headers header
  pub whole : word ≡ 35 ∷ (blanks ++ (codes "include" ++ (others ++ (codes "<" ++ (header ++ codes ">")))))

-- a directive that is skipped
abbrev pub IsSkipped : List ℕ → List ℕ → Type 0
IsSkipped word behind = IsLongest IsLineMarker word behind ⊎ (IsInclude word × IsQuiet behind)

-- what separates tokens stands between the bytes before and those behind: a newline, a blank or comment, or at a line's
-- start a directive that is skipped
abbrev pub IsGap : List ℕ → List ℕ → List ℕ → Type 0
IsGap before gap behind = (gap ≡ 10 ∷ []) ⊎ (IsQuietGap gap behind ⊎ (IsAtLineStart before × IsSkipped gap behind))

-- Pieces --------------------------------------------------------------------------------------------------------------

pub data Piece : Type 0 where
  Gap : (bytes : List ℕ) → Piece
  Lexeme : (kind : Kind) (bytes : List ℕ) → Piece

abbrev pub piece_bytes : Piece → List ℕ
piece_bytes (Gap bytes) = bytes
piece_bytes (Lexeme kind bytes) = bytes

-- a comment begins there
abbrev pub BeginsComment : List ℕ → Type 0
BeginsComment bytes = (rest : List ℕ) × ((bytes ≡ codes "//" ++ rest) ⊎ (bytes ≡ codes "/*" ++ rest))

-- the longest token in front of what is left, where no comment begins
pub record IsLexeme (kind : Kind) (word behind : List ℕ) : Type 0 where
  pub kind_is : IsOfKind kind word
  pub longest : IsLongest IsToken word behind
  pub no_comment : BeginsComment (word ++ behind) → ⊥

-- an integer is below 2^64
abbrev pub IsNarrow : Kind → List ℕ → Type 0
IsNarrow Word word = Unit {0}
IsNarrow Integer word = (i : IsInteger word) → i.value < 2 ^ 64
IsNarrow Character word = Unit {0}
IsNarrow Punctuator word = Unit {0}

abbrev pub IsPiece : List ℕ → Piece → List ℕ → Type 0
IsPiece before (Gap bytes) behind = IsGap before bytes behind
IsPiece before (Lexeme kind bytes) behind = IsLexeme kind bytes behind × IsNarrow kind bytes

-- these pieces stand one behind the other, between the bytes before them all and those behind
abbrev pub ArePieces : List ℕ → List Piece → List ℕ → Type 0
ArePieces before [] behind = Unit {0}
ArePieces before (piece ∷ pieces) behind =
    IsPiece before piece (flat_map piece_bytes pieces ++ behind) × ArePieces (before ++ piece_bytes piece) pieces behind

-- the bytes are these pieces, and what is behind them
pub record AreCut (bytes : List ℕ) (pieces : List Piece) (behind : List ℕ) : Type 0 where
  pub whole : bytes ≡ flat_map piece_bytes pieces ++ behind
  pub right : ArePieces [] pieces behind

-- Tokens --------------------------------------------------------------------------------------------------------------

-- a token with its line, which is 1 and one more for each newline before it
pub record Token : Type 0 where
  pub kind : Kind
  pub bytes : List ℕ
  pub line : ℕ

abbrev pub tokens_from : ℕ → List Piece → List Token
tokens_from line [] = []
tokens_from line (Gap bytes ∷ pieces) = tokens_from (line + newlines bytes) pieces
tokens_from line (Lexeme kind bytes ∷ pieces) = record { kind = kind; bytes = bytes; line = line } ∷ tokens_from line pieces

-- the bytes are a source of these tokens
pub record AreTokens (bytes : List ℕ) (tokens : List Token) : Type 0 where
  pub pieces : List Piece
  pub cut : AreCut bytes pieces []
  pub tokens_are : tokens ≡ tokens_from 1 pieces

-- Where the reading stops ---------------------------------------------------------------------------------------------

-- a byte, from 0, at which no token begins; one at which a literal begins that is too wide; the line of a directive
pub data Stuck : Type 0 where
  AtByte : (at : ℕ) → Stuck
  AtWide : (at : ℕ) → Stuck
  AtDirective : (line : ℕ) → Stuck

-- a `#` is the first of its line that is no blank
abbrev pub BeginsDirective : List ℕ → List ℕ → Type 0
BeginsDirective before behind = IsAtLineStart before × ((rest : List ℕ) × (behind ≡ 35 ∷ rest))

-- no piece begins there
abbrev pub BeginsNone : List ℕ → List ℕ → Type 0
BeginsNone before behind =
    ((gap rest : List ℕ) → behind ≡ gap ++ rest → IsGap before gap rest → ⊥)
    × ((kind : Kind) (word rest : List ℕ) → behind ≡ word ++ rest → IsLexeme kind word rest → ⊥)

-- an integer of 2^64 or more begins there
pub record BeginsWide (behind : List ℕ) : Type 0 where
  pub word : List ℕ
  pub rest : List ℕ
  pub whole : behind ≡ word ++ rest
  pub lexeme : IsLexeme Integer word rest
  pub integer : IsInteger word
  pub wide : 2 ^ 64 ≤ integer.value

abbrev pub IsStuckAt : List ℕ → List ℕ → Stuck → Type 0
IsStuckAt before behind (AtByte at) = (at ≡ length before) × (behind ≢ []) × BeginsNone before behind × (BeginsDirective before behind → ⊥)
IsStuckAt before behind (AtWide at) = (at ≡ length before) × BeginsWide behind
IsStuckAt before behind (AtDirective line) = (line ≡ suc (newlines before)) × BeginsNone before behind × BeginsDirective before behind

-- the reading stops behind these pieces
pub record IsStuck (bytes : List ℕ) (stuck : Stuck) : Type 0 where
  pub pieces : List Piece
  pub behind : List ℕ
  pub cut : AreCut bytes pieces behind
  pub stops : IsStuckAt (flat_map piece_bytes pieces) behind stuck
