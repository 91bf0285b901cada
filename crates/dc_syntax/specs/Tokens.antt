-- The tokens of the grammar, and the place of a phrase.
use Rattle.std.specs.Prelude.{ℕ, Bool, true, false, ◌==◌, List, [], ◌∷◌}
use Rattle.dc_syntax.specs.declared.mark.Mark.{Mark}
use Rattle.dc_syntax.specs.declared.mark.Mark.TheVariants.{LeftParen, RightParen, LeftBracket, RightBracket, LeftBrace, RightBrace, Semicolon, Comma, Colon, Question, Dot, Arrow, Increment, Decrement, Ampersand, Star, Plus, Minus, Tilde, Exclamation, Slash, Percent, ShiftLeft, ShiftRight, Less, Greater, LessEqual, GreaterEqual, EqualEqual, NotEqual, Caret, Bar, AndAnd, OrOr, Implication, Equals, StarEquals, SlashEquals, PercentEquals, PlusEquals, MinusEquals, ShiftLeftEquals, ShiftRightEquals, AmpersandEquals, CaretEquals, BarEquals}
use Rattle.dc_syntax.specs.declared.keyword.Keyword.{Keyword}
use Rattle.dc_syntax.specs.declared.keyword.Keyword.TheVariants.{Break, Case, Char, Const, Continue, Default, Do, Else, Enum, Extern, For, If, Inline, Int, Long, Restrict, Return, Short, Signed, Sizeof, Static, Struct, Switch, Typedef, Unsigned, Void, While, Boolean, Forall, Exists, Requires, Ensures, Assigns, Frees, LoopInvariant, Decreases, LeftOut}

-- what a token is: a name, a literal, a mark or a keyword (C11 6.4)
pub data Word : Type 0 where
  Named : List ℕ → Word
  Literal : List ℕ → Word
  Marked : Mark → Word
  Reserved : Keyword → Word

-- a token with its number, from 1, and its line
pub record Token : Type 0 where
  pub word : Word
  pub number : ℕ
  pub line : ℕ

-- the number of a phrase's last token, and the line of its first
pub record Place : Type 0 where
  pub last : ℕ
  pub line : ℕ

abbrev pub last_number : Token → List Token → ℕ
last_number t [] = t.number
last_number t (u ∷ ts) = last_number u ts

-- the place of the phrase that has these tokens
abbrev pub place_of : List Token → Place
place_of [] = record { last = 0; line = 0 }
place_of (t ∷ ts) = record { last = last_number t ts; line = t.line }

abbrev pub break_word : Word
break_word = Reserved Break

abbrev pub case_word : Word
case_word = Reserved Case

abbrev pub continue_word : Word
continue_word = Reserved Continue

abbrev pub default_word : Word
default_word = Reserved Default

abbrev pub do_word : Word
do_word = Reserved Do

abbrev pub else_word : Word
else_word = Reserved Else

abbrev pub enum_word : Word
enum_word = Reserved Enum

abbrev pub for_word : Word
for_word = Reserved For

abbrev pub if_word : Word
if_word = Reserved If

abbrev pub return_word : Word
return_word = Reserved Return

abbrev pub sizeof_word : Word
sizeof_word = Reserved Sizeof

abbrev pub struct_word : Word
struct_word = Reserved Struct

abbrev pub switch_word : Word
switch_word = Reserved Switch

abbrev pub void_word : Word
void_word = Reserved Void

abbrev pub while_word : Word
while_word = Reserved While

abbrev pub requires_word : Word
requires_word = Reserved Requires

abbrev pub ensures_word : Word
ensures_word = Reserved Ensures

abbrev pub assigns_word : Word
assigns_word = Reserved Assigns

abbrev pub frees_word : Word
frees_word = Reserved Frees

abbrev pub loop_invariant_word : Word
loop_invariant_word = Reserved LoopInvariant

abbrev pub decreases_word : Word
decreases_word = Reserved Decreases

-- marks and keywords are compared by numbers of their own
abbrev pub mark_number : Mark → ℕ
mark_number LeftParen = 0
mark_number RightParen = 1
mark_number LeftBracket = 2
mark_number RightBracket = 3
mark_number LeftBrace = 4
mark_number RightBrace = 5
mark_number Semicolon = 6
mark_number Comma = 7
mark_number Colon = 8
mark_number Question = 9
mark_number Dot = 10
mark_number Arrow = 11
mark_number Increment = 12
mark_number Decrement = 13
mark_number Ampersand = 14
mark_number Star = 15
mark_number Plus = 16
mark_number Minus = 17
mark_number Tilde = 18
mark_number Exclamation = 19
mark_number Slash = 20
mark_number Percent = 21
mark_number ShiftLeft = 22
mark_number ShiftRight = 23
mark_number Less = 24
mark_number Greater = 25
mark_number LessEqual = 26
mark_number GreaterEqual = 27
mark_number EqualEqual = 28
mark_number NotEqual = 29
mark_number Caret = 30
mark_number Bar = 31
mark_number AndAnd = 32
mark_number OrOr = 33
mark_number Implication = 34
mark_number Equals = 35
mark_number StarEquals = 36
mark_number SlashEquals = 37
mark_number PercentEquals = 38
mark_number PlusEquals = 39
mark_number MinusEquals = 40
mark_number ShiftLeftEquals = 41
mark_number ShiftRightEquals = 42
mark_number AmpersandEquals = 43
mark_number CaretEquals = 44
mark_number BarEquals = 45

abbrev pub keyword_number : Keyword → ℕ
keyword_number Break = 0
keyword_number Case = 1
keyword_number Char = 2
keyword_number Const = 3
keyword_number Continue = 4
keyword_number Default = 5
keyword_number Do = 6
keyword_number Else = 7
keyword_number Enum = 8
keyword_number Extern = 9
keyword_number For = 10
keyword_number If = 11
keyword_number Inline = 12
keyword_number Int = 13
keyword_number Long = 14
keyword_number Restrict = 15
keyword_number Return = 16
keyword_number Short = 17
keyword_number Signed = 18
keyword_number Sizeof = 19
keyword_number Static = 20
keyword_number Struct = 21
keyword_number Switch = 22
keyword_number Typedef = 23
keyword_number Unsigned = 24
keyword_number Void = 25
keyword_number While = 26
keyword_number Boolean = 27
keyword_number Forall = 28
keyword_number Exists = 29
keyword_number Requires = 30
keyword_number Ensures = 31
keyword_number Assigns = 32
keyword_number Frees = 33
keyword_number LoopInvariant = 34
keyword_number Decreases = 35
keyword_number LeftOut = 36

-- is the second this mark or keyword?
abbrev pub is_word : Word → Word → Bool
is_word (Marked m) (Marked n) = mark_number n == mark_number m
is_word (Reserved k) (Reserved l) = keyword_number l == keyword_number k
is_word _ _ = false

-- the binary operators of C11 6.5.5 to 6.5.14 by their levels, `*` first; 0: none
abbrev pub infix_level : Mark → ℕ
infix_level Star = 1
infix_level Slash = 1
infix_level Percent = 1
infix_level Plus = 2
infix_level Minus = 2
infix_level ShiftLeft = 3
infix_level ShiftRight = 3
infix_level Less = 4
infix_level Greater = 4
infix_level LessEqual = 4
infix_level GreaterEqual = 4
infix_level EqualEqual = 5
infix_level NotEqual = 5
infix_level Ampersand = 6
infix_level Caret = 7
infix_level Bar = 8
infix_level AndAnd = 9
infix_level OrOr = 10
infix_level _ = 0

-- & * + - ~ ! before an operand (C11 6.5.3)
abbrev pub is_prefix : Mark → Bool
is_prefix Ampersand = true
is_prefix Star = true
is_prefix Plus = true
is_prefix Minus = true
is_prefix Tilde = true
is_prefix Exclamation = true
is_prefix _ = false

-- ++ and --
abbrev pub is_step : Mark → Bool
is_step Increment = true
is_step Decrement = true
is_step _ = false

-- the assignment operators (C11 6.5.16)
abbrev pub is_assignment : Mark → Bool
is_assignment Equals = true
is_assignment StarEquals = true
is_assignment SlashEquals = true
is_assignment PercentEquals = true
is_assignment PlusEquals = true
is_assignment MinusEquals = true
is_assignment ShiftLeftEquals = true
is_assignment ShiftRightEquals = true
is_assignment AmpersandEquals = true
is_assignment CaretEquals = true
is_assignment BarEquals = true
is_assignment _ = false

abbrev pub is_quantifier : Keyword → Bool
is_quantifier Forall = true
is_quantifier Exists = true
is_quantifier _ = false

-- behind a * (C11 6.7.6)
abbrev pub is_qualifier : Keyword → Bool
is_qualifier Const = true
is_qualifier Restrict = true
is_qualifier _ = false

-- the words that are types or parts of one (C11 6.7.2)
abbrev pub is_type_word : Keyword → Bool
is_type_word Char = true
is_type_word Int = true
is_type_word Long = true
is_type_word Short = true
is_type_word Signed = true
is_type_word Unsigned = true
is_type_word Void = true
is_type_word Boolean = true
is_type_word _ = false

-- the words that are a spec by themselves (C11 6.7.1 to 6.7.4)
abbrev pub is_spec_word : Keyword → Bool
is_spec_word Typedef = true
is_spec_word Extern = true
is_spec_word Static = true
is_spec_word Inline = true
is_spec_word Const = true
is_spec_word Restrict = true
is_spec_word k = is_type_word k

-- struct and enum
abbrev pub is_tag_word : Keyword → Bool
is_tag_word Struct = true
is_tag_word Enum = true
is_tag_word _ = false

-- does the word make what is declared a typedef?
abbrev pub is_typedef_word : Keyword → Bool
is_typedef_word Typedef = true
is_typedef_word _ = false

-- the word that is a parameter list by itself
abbrev pub is_void_word : Keyword → Bool
is_void_word Void = true
is_void_word _ = false
