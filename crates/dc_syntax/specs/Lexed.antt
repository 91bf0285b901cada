-- Which token of the grammar a token of a source is (C11 6.4.1, 6.4.6).
use Rattle.std.specs.Prelude.{ℕ, suc, List, [], ◌∷◌, Option, Some, None, codes}
use Rattle.std.specs.Map.{lookup}
use Rattle.dc_text.specs.Words.{same}
use Rattle.dc_lexer.specs.declared.kind.Kind as lexer
use Rattle.dc_lexer.specs.declared.kind.Kind.TheVariants as kind
use Rattle.dc_lexer.specs.Pieces as source
use Rattle.dc_syntax.specs.declared.mark.Mark.{Mark}
use Rattle.dc_syntax.specs.declared.mark.Mark.TheVariants.{LeftParen, RightParen, LeftBracket, RightBracket, LeftBrace, RightBrace, Semicolon, Comma, Colon, Question, Dot, Arrow, Increment, Decrement, Ampersand, Star, Plus, Minus, Tilde, Exclamation, Slash, Percent, ShiftLeft, ShiftRight, Less, Greater, LessEqual, GreaterEqual, EqualEqual, NotEqual, Caret, Bar, AndAnd, OrOr, Implication, Equals, StarEquals, SlashEquals, PercentEquals, PlusEquals, MinusEquals, ShiftLeftEquals, ShiftRightEquals, AmpersandEquals, CaretEquals, BarEquals}
use Rattle.dc_syntax.specs.declared.keyword.Keyword.{Keyword}
use Rattle.dc_syntax.specs.declared.keyword.Keyword.TheVariants.{Break, Case, Char, Const, Continue, Default, Do, Else, Enum, Extern, For, If, Inline, Int, Long, Restrict, Return, Short, Signed, Sizeof, Static, Struct, Switch, Typedef, Unsigned, Void, While, Boolean, Forall, Exists, Requires, Ensures, Assigns, Frees, LoopInvariant, Decreases, LeftOut}
use Rattle.dc_syntax.specs.Tokens.{Word, Named, Literal, Marked, Reserved, Token}

-- the words that are no names: those of the grammar, and the keywords of C that it leaves out
unfoldable pub keywords : List (List ℕ × Keyword)
keywords =
    (codes "break", Break) ∷ (codes "case", Case) ∷ (codes "char", Char) ∷ (codes "const", Const) ∷
    (codes "continue", Continue) ∷ (codes "default", Default) ∷ (codes "do", Do) ∷ (codes "else", Else) ∷ (codes "enum", Enum) ∷
    (codes "extern", Extern) ∷ (codes "for", For) ∷ (codes "if", If) ∷ (codes "inline", Inline) ∷ (codes "int", Int) ∷
    (codes "long", Long) ∷ (codes "restrict", Restrict) ∷ (codes "return", Return) ∷ (codes "short", Short) ∷
    (codes "signed", Signed) ∷ (codes "sizeof", Sizeof) ∷ (codes "static", Static) ∷ (codes "struct", Struct) ∷
    (codes "switch", Switch) ∷ (codes "typedef", Typedef) ∷ (codes "unsigned", Unsigned) ∷ (codes "void", Void) ∷
    (codes "while", While) ∷ (codes "_Bool", Boolean) ∷ (codes "__CPROVER_forall", Forall) ∷ (codes "__CPROVER_exists", Exists) ∷
    (codes "__CPROVER_requires", Requires) ∷ (codes "__CPROVER_ensures", Ensures) ∷ (codes "__CPROVER_assigns", Assigns) ∷
    (codes "__CPROVER_frees", Frees) ∷ (codes "__CPROVER_loop_invariant", LoopInvariant) ∷
    (codes "__CPROVER_decreases", Decreases) ∷ (codes "auto", LeftOut) ∷ (codes "double", LeftOut) ∷ (codes "float", LeftOut) ∷
    (codes "goto", LeftOut) ∷ (codes "register", LeftOut) ∷ (codes "union", LeftOut) ∷ (codes "volatile", LeftOut) ∷
    (codes "_Alignas", LeftOut) ∷ (codes "_Alignof", LeftOut) ∷ (codes "_Atomic", LeftOut) ∷ (codes "_Complex", LeftOut) ∷
    (codes "_Generic", LeftOut) ∷ (codes "_Imaginary", LeftOut) ∷ (codes "_Noreturn", LeftOut) ∷
    (codes "_Static_assert", LeftOut) ∷ (codes "_Thread_local", LeftOut) ∷ []

-- the punctuators
unfoldable pub marks : List (List ℕ × Mark)
marks =
    (codes "(", LeftParen) ∷ (codes ")", RightParen) ∷ (codes "[", LeftBracket) ∷ (codes "]", RightBracket) ∷
    (codes "{", LeftBrace) ∷ (codes "}", RightBrace) ∷ (codes ";", Semicolon) ∷ (codes ",", Comma) ∷ (codes ":", Colon) ∷
    (codes "?", Question) ∷ (codes ".", Dot) ∷ (codes "->", Arrow) ∷ (codes "++", Increment) ∷ (codes "--", Decrement) ∷
    (codes "&", Ampersand) ∷ (codes "*", Star) ∷ (codes "+", Plus) ∷ (codes "-", Minus) ∷ (codes "~", Tilde) ∷
    (codes "!", Exclamation) ∷ (codes "/", Slash) ∷ (codes "%", Percent) ∷ (codes "<<", ShiftLeft) ∷ (codes ">>", ShiftRight) ∷
    (codes "<", Less) ∷ (codes ">", Greater) ∷ (codes "<=", LessEqual) ∷ (codes ">=", GreaterEqual) ∷ (codes "==", EqualEqual) ∷
    (codes "!=", NotEqual) ∷ (codes "^", Caret) ∷ (codes "|", Bar) ∷ (codes "&&", AndAnd) ∷ (codes "||", OrOr) ∷
    (codes "==>", Implication) ∷ (codes "=", Equals) ∷ (codes "*=", StarEquals) ∷ (codes "/=", SlashEquals) ∷
    (codes "%=", PercentEquals) ∷ (codes "+=", PlusEquals) ∷ (codes "-=", MinusEquals) ∷ (codes "<<=", ShiftLeftEquals) ∷
    (codes ">>=", ShiftRightEquals) ∷ (codes "&=", AmpersandEquals) ∷ (codes "^=", CaretEquals) ∷ (codes "|=", BarEquals) ∷ []

abbrev pub or_named : Option Keyword → List ℕ → Word
or_named None bytes = Named bytes
or_named (Some k) bytes = Reserved k

-- bytes that are no punctuator stand in no alternative
abbrev pub or_left_out : Option Mark → Word
or_left_out None = Reserved LeftOut
or_left_out (Some m) = Marked m

abbrev pub word_of : lexer.Kind → List ℕ → Word
word_of kind.Word bytes = or_named (lookup (same bytes) keywords) bytes
word_of kind.Integer bytes = Literal bytes
word_of kind.Character bytes = Literal bytes
word_of kind.Punctuator bytes = or_left_out (lookup (same bytes) marks)

-- with their numbers, in their order
abbrev pub numbered : ℕ → List source.Token → List Token
numbered n [] = []
numbered n (t ∷ ts) = record { word = word_of t.kind t.bytes; number = n; line = t.line } ∷ numbered (suc n) ts

-- numbers begin with 1
abbrev pub grammar_tokens : List source.Token → List Token
grammar_tokens ts = numbered 1 ts
