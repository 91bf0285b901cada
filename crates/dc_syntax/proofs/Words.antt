-- Marks and keywords are told apart by their numbers.
use Rattle.std.proofs.Common.{◌≡◌, ℕ, Bool, true, false, if◌then◌else◌, ◌==◌, refl, sym, ap, ◌∙◌, subst, arith}
use Rattle.std.proofs.lemmas.Bool.Decides.{nat_tests}
use Rattle.dc_syntax.specs.declared.mark.Mark.{Mark}
use Rattle.dc_syntax.specs.declared.mark.Mark.TheVariants.{LeftParen, RightParen, LeftBracket, RightBracket, LeftBrace, RightBrace, Semicolon, Comma, Colon, Question, Dot, Arrow, Increment, Decrement, Ampersand, Star, Plus, Minus, Tilde, Exclamation, Slash, Percent, ShiftLeft, ShiftRight, Less, Greater, LessEqual, GreaterEqual, EqualEqual, NotEqual, Caret, Bar, AndAnd, OrOr, Implication, Equals, StarEquals, SlashEquals, PercentEquals, PlusEquals, MinusEquals, ShiftLeftEquals, ShiftRightEquals, AmpersandEquals, CaretEquals, BarEquals}
use Rattle.dc_syntax.specs.declared.keyword.Keyword.{Keyword}
use Rattle.dc_syntax.specs.declared.keyword.Keyword.TheVariants.{Break, Case, Char, Const, Continue, Default, Do, Else, Enum, Extern, For, If, Inline, Int, Long, Restrict, Return, Short, Signed, Sizeof, Static, Struct, Switch, Typedef, Unsigned, Void, While, Boolean, Forall, Exists, Requires, Ensures, Assigns, Frees, LoopInvariant, Decreases, LeftOut}
use Rattle.dc_syntax.specs.Tokens.{Word, Marked, Reserved, mark_number, keyword_number, is_word}

-- the mark with a number
abbrev mark_at : ℕ → Mark
mark_at n = if n == 0 then LeftParen else (if n == 1 then RightParen else (if n == 2 then LeftBracket else (if n == 3 then RightBracket else (if n == 4 then LeftBrace else (if n == 5 then RightBrace else (if n == 6 then Semicolon else (if n == 7 then Comma else (if n == 8 then Colon else (if n == 9 then Question else (if n == 10 then Dot else (if n == 11 then Arrow else (if n == 12 then Increment else (if n == 13 then Decrement else (if n == 14 then Ampersand else (if n == 15 then Star else (if n == 16 then Plus else (if n == 17 then Minus else (if n == 18 then Tilde else (if n == 19 then Exclamation else (if n == 20 then Slash else (if n == 21 then Percent else (if n == 22 then ShiftLeft else (if n == 23 then ShiftRight else (if n == 24 then Less else (if n == 25 then Greater else (if n == 26 then LessEqual else (if n == 27 then GreaterEqual else (if n == 28 then EqualEqual else (if n == 29 then NotEqual else (if n == 30 then Caret else (if n == 31 then Bar else (if n == 32 then AndAnd else (if n == 33 then OrOr else (if n == 34 then Implication else (if n == 35 then Equals else (if n == 36 then StarEquals else (if n == 37 then SlashEquals else (if n == 38 then PercentEquals else (if n == 39 then PlusEquals else (if n == 40 then MinusEquals else (if n == 41 then ShiftLeftEquals else (if n == 42 then ShiftRightEquals else (if n == 43 then AmpersandEquals else (if n == 44 then CaretEquals else (BarEquals)))))))))))))))))))))))))))))))))))))))))))))

mark-at : (m : Mark) → mark_at (mark_number m) ≡ m
mark-at LeftParen = refl
mark-at RightParen = refl
mark-at LeftBracket = refl
mark-at RightBracket = refl
mark-at LeftBrace = refl
mark-at RightBrace = refl
mark-at Semicolon = refl
mark-at Comma = refl
mark-at Colon = refl
mark-at Question = refl
mark-at Dot = refl
mark-at Arrow = refl
mark-at Increment = refl
mark-at Decrement = refl
mark-at Ampersand = refl
mark-at Star = refl
mark-at Plus = refl
mark-at Minus = refl
mark-at Tilde = refl
mark-at Exclamation = refl
mark-at Slash = refl
mark-at Percent = refl
mark-at ShiftLeft = refl
mark-at ShiftRight = refl
mark-at Less = refl
mark-at Greater = refl
mark-at LessEqual = refl
mark-at GreaterEqual = refl
mark-at EqualEqual = refl
mark-at NotEqual = refl
mark-at Caret = refl
mark-at Bar = refl
mark-at AndAnd = refl
mark-at OrOr = refl
mark-at Implication = refl
mark-at Equals = refl
mark-at StarEquals = refl
mark-at SlashEquals = refl
mark-at PercentEquals = refl
mark-at PlusEquals = refl
mark-at MinusEquals = refl
mark-at ShiftLeftEquals = refl
mark-at ShiftRightEquals = refl
mark-at AmpersandEquals = refl
mark-at CaretEquals = refl
mark-at BarEquals = refl

-- the keyword with a number
abbrev keyword_at : ℕ → Keyword
keyword_at n = if n == 0 then Break else (if n == 1 then Case else (if n == 2 then Char else (if n == 3 then Const else (if n == 4 then Continue else (if n == 5 then Default else (if n == 6 then Do else (if n == 7 then Else else (if n == 8 then Enum else (if n == 9 then Extern else (if n == 10 then For else (if n == 11 then If else (if n == 12 then Inline else (if n == 13 then Int else (if n == 14 then Long else (if n == 15 then Restrict else (if n == 16 then Return else (if n == 17 then Short else (if n == 18 then Signed else (if n == 19 then Sizeof else (if n == 20 then Static else (if n == 21 then Struct else (if n == 22 then Switch else (if n == 23 then Typedef else (if n == 24 then Unsigned else (if n == 25 then Void else (if n == 26 then While else (if n == 27 then Boolean else (if n == 28 then Forall else (if n == 29 then Exists else (if n == 30 then Requires else (if n == 31 then Ensures else (if n == 32 then Assigns else (if n == 33 then Frees else (if n == 34 then LoopInvariant else (if n == 35 then Decreases else LeftOut)))))))))))))))))))))))))))))))))))

keyword-at : (k : Keyword) → keyword_at (keyword_number k) ≡ k
keyword-at Break = refl
keyword-at Case = refl
keyword-at Char = refl
keyword-at Const = refl
keyword-at Continue = refl
keyword-at Default = refl
keyword-at Do = refl
keyword-at Else = refl
keyword-at Enum = refl
keyword-at Extern = refl
keyword-at For = refl
keyword-at If = refl
keyword-at Inline = refl
keyword-at Int = refl
keyword-at Long = refl
keyword-at Restrict = refl
keyword-at Return = refl
keyword-at Short = refl
keyword-at Signed = refl
keyword-at Sizeof = refl
keyword-at Static = refl
keyword-at Struct = refl
keyword-at Switch = refl
keyword-at Typedef = refl
keyword-at Unsigned = refl
keyword-at Void = refl
keyword-at While = refl
keyword-at Boolean = refl
keyword-at Forall = refl
keyword-at Exists = refl
keyword-at Requires = refl
keyword-at Ensures = refl
keyword-at Assigns = refl
keyword-at Frees = refl
keyword-at LoopInvariant = refl
keyword-at Decreases = refl
keyword-at LeftOut = refl

abbrev true_false : Bool → Type 0
true_false true = Unit {0}
true_false false = ⊥

pub false-true : false ≡ true → ⊥
false-true e = subst true_false (sym e) tt

pub eq_is : (m n : ℕ) → (n == m) ≡ true → n ≡ m
eq_is m n e = grind (arith, nat_tests)

pub eq_same : (m : ℕ) → (m == m) ≡ true
eq_same m = grind (arith, nat_tests)

-- what passes the test is the word
pub word_is : (w u : Word) → is_word w u ≡ true → u ≡ w
word_is (Marked m) (Marked n) e = ap Marked (sym (mark-at n) ∙ (ap mark_at (eq_is (mark_number m) (mark_number n) e) ∙ mark-at m))
word_is (Reserved k) (Reserved l) e = ap Reserved (sym (keyword-at l) ∙ (ap keyword_at (eq_is (keyword_number k) (keyword_number l) e) ∙ keyword-at k))
word_is _ _ e = absurd (false-true e)
