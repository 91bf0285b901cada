-- What some lists of tokens are read as, and that others are not read.
use Rattle.std.proofs.Common.{◌≡◌, ℕ, suc, true, List, [], ◌∷◌, ◌++◌, refl}
use Rattle.dc_syntax.specs.declared.mark.Mark.TheVariants.{LeftParen, RightParen, LeftBrace, RightBrace, Semicolon, Comma, Star, Minus, Implication, Equals}
use Rattle.dc_syntax.specs.declared.keyword.Keyword.TheVariants.{Int, Void, Const, Unsigned, Typedef, Struct, Enum, Sizeof, For}
use Rattle.dc_syntax.specs.Tokens.{Word, Named, Literal, Marked, Reserved, Token, if_word, else_word, for_word}
use Rattle.dc_syntax.specs.Trees.{Tree, Binary, Cast, Implies, SizeofType, NoParameters, SomeParameters, Function}
use Rattle.dc_syntax.specs.Parts.{Part, Block, Simple, If, IfElse, Items, Declaration, SomeDeclared, Plain, For, Externals, NoExternals}
use Rattle.dc_syntax.specs.Reading.{Out, Nothing, Found, reads, Upto}
use Rattle.dc_syntax.specs.ReadingUnits.{reads_part, reads_unit, StatementOf}

abbrev numbered : ℕ → List Word → List Token
numbered n [] = []
numbered n (w ∷ ws) = record { word = w; number = suc n; line = 1 } ∷ numbered (suc n) ws

abbrev a : Word
a = Named (97 ∷ [])

abbrev b : Word
b = Named (98 ∷ [])

abbrev c : Word
c = Named (99 ∷ [])

abbrev x : Word
x = Named (120 ∷ [])

abbrev type_t : Word
type_t = Named (84 ∷ [])

abbrev one : Word
one = Literal (49 ∷ [])

abbrev open_paren : Word
open_paren = Marked LeftParen

abbrev close_paren : Word
close_paren = Marked RightParen

abbrev open_brace : Word
open_brace = Marked LeftBrace

abbrev close_brace : Word
close_brace = Marked RightBrace

abbrev end : Word
end = Marked Semicolon

abbrev star : Word
star = Marked Star

abbrev int : Word
int = Reserved Int

-- typedef int T ;
abbrev typedef_t : List Word
typedef_t = Reserved Typedef ∷ int ∷ type_t ∷ end ∷ []

abbrev is_unit_of : Out Part → ℕ
is_unit_of Nothing = 0
is_unit_of (Found NoExternals []) = 1
is_unit_of (Found (Externals e NoExternals) []) = 2
is_unit_of (Found (Externals e (Externals f NoExternals)) []) = 3
is_unit_of (Found (Externals e (Externals f (Externals g m))) []) = 4
is_unit_of (Found e rest) = 9

-- how many externals the words spell, plus one; 0 is none
abbrev unit : List Word → ℕ
unit ws = is_unit_of (reads_unit 9 (numbered 0 ws))

abbrev statement : List Word → Out Part
statement ws = reads_part 9 StatementOf [] (numbered 0 ws)

abbrev expression : List Word → Out Tree
expression ws = reads 9 (Upto 16) (record { name = 84 ∷ []; is_type = true } ∷ []) (numbered 0 ws)

abbrev shape : Out Part → ℕ
shape Nothing = 0
shape (Found (If e (IfElse f g h p) q) rest) = 1
shape (Found (IfElse e (If f g p) h q) rest) = 2
shape (Found (IfElse e (Block m p) h q) []) = 3
shape (Found (Block (Items t (Items (Declaration s d q) k)) r) rest) = 4
shape (Found (Block (Items t (Items (Block (Items u (Items (Simple (Binary o f g s) v) k)) w) y)) r) rest) = 5
shape (Found (Block (Items t (Items (For f e s d g p) (Items (Declaration u m q) k))) r) rest) = 6
shape (Found e rest) = 9

abbrev form : Out Tree → ℕ
form Nothing = 0
form (Found (Implies e (Implies f g p) q) []) = 1
form (Found (Implies (Implies e f p) g q) []) = 2
form (Found (Cast t e p) []) = 3
form (Found (Binary o (SizeofType t p) e q) []) = 5
form (Found (Binary o e f p) []) = 4
form (Found e rest) = 9

-- if (a) if (b) c; else a;
dangling : shape (statement (if_word ∷ open_paren ∷ a ∷ close_paren ∷ if_word ∷ open_paren ∷ b ∷ close_paren ∷ c ∷ end ∷ else_word ∷ a ∷ end ∷ [])) ≡ 1
dangling = refl

-- if (a) { if (b) ; } else ;
closed_block : shape (statement (if_word ∷ open_paren ∷ a ∷ close_paren ∷ open_brace ∷ if_word ∷ open_paren ∷ b ∷ close_paren ∷ end ∷ close_brace ∷ else_word ∷ end ∷ [])) ≡ 3
closed_block = refl

-- { typedef int T; T * x; }
declares : shape (statement (open_brace ∷ typedef_t ++ (type_t ∷ star ∷ x ∷ end ∷ close_brace ∷ []))) ≡ 4
declares = refl

-- { typedef int T; { int T; T * x; } }
hides : shape (statement (open_brace ∷ typedef_t ++ (open_brace ∷ int ∷ type_t ∷ end ∷ type_t ∷ star ∷ x ∷ end ∷ close_brace ∷ close_brace ∷ []))) ≡ 5
hides = refl

-- { typedef int T; for (int T = 1; ; ) ; T * x; }
for_scope : shape (statement (open_brace ∷ typedef_t ++ (for_word ∷ open_paren ∷ int ∷ type_t ∷ Marked Equals ∷ one ∷ end ∷ end ∷ close_paren ∷ end ∷ type_t ∷ star ∷ x ∷ end ∷ close_brace ∷ []))) ≡ 6
for_scope = refl

-- a ==> b ==> c
to_the_right : form (expression (a ∷ Marked Implication ∷ b ∷ Marked Implication ∷ c ∷ [])) ≡ 1
to_the_right = refl

-- (T) - 1
cast : form (expression (open_paren ∷ type_t ∷ close_paren ∷ Marked Minus ∷ one ∷ [])) ≡ 3
cast = refl

-- (a) - 1
difference : form (expression (open_paren ∷ a ∷ close_paren ∷ Marked Minus ∷ one ∷ [])) ≡ 4
difference = refl

-- sizeof (T) * a
measured : form (expression (Reserved Sizeof ∷ open_paren ∷ type_t ∷ close_paren ∷ star ∷ a ∷ [])) ≡ 5
measured = refl

-- typedef int T; int (T);
no_parenthesis : unit (typedef_t ++ (int ∷ open_paren ∷ type_t ∷ close_paren ∷ end ∷ [])) ≡ 0
no_parenthesis = refl

-- typedef int T; unsigned T;
declares_again : unit (typedef_t ++ (Reserved Unsigned ∷ type_t ∷ end ∷ [])) ≡ 3
declares_again = refl

-- typedef int T; const T;
longest_run : unit (typedef_t ++ (Reserved Const ∷ type_t ∷ end ∷ [])) ≡ 0
longest_run = refl

-- typedef int T; const T x;
longest_run_named : unit (typedef_t ++ (Reserved Const ∷ type_t ∷ x ∷ end ∷ [])) ≡ 3
longest_run_named = refl

-- int;
no_tag : unit (int ∷ end ∷ []) ≡ 0
no_tag = refl

-- struct x;
lone_tag : unit (Reserved Struct ∷ x ∷ end ∷ []) ≡ 2
lone_tag = refl

-- typedef int T; struct x { int T; T a; };
members : unit (typedef_t ++ (Reserved Struct ∷ x ∷ open_brace ∷ int ∷ type_t ∷ end ∷ type_t ∷ a ∷ end ∷ close_brace ∷ end ∷ [])) ≡ 3
members = refl

-- typedef int T; enum { T = sizeof (T), };
enumerator : unit (typedef_t ++ (Reserved Enum ∷ open_brace ∷ type_t ∷ Marked Equals ∷ Reserved Sizeof ∷ open_paren ∷ type_t ∷ close_paren ∷ Marked Comma ∷ close_brace ∷ end ∷ [])) ≡ 3
enumerator = refl

abbrev first_parameters : Out Part → ℕ
first_parameters (Found (Externals (Declaration s (SomeDeclared (Plain (Function d NoParameters p) q) m) r) NoExternals) []) = 1
first_parameters (Found (Externals (Declaration s (SomeDeclared (Plain (Function d (SomeParameters e k) p) q) m) r) NoExternals) []) = 2
first_parameters o = 0

-- int x(void); int x(const void);
void_list : first_parameters (reads_unit 9 (numbered 0 (int ∷ x ∷ open_paren ∷ Reserved Void ∷ close_paren ∷ end ∷ []))) ≡ 1
void_list = refl

const_void : first_parameters (reads_unit 9 (numbered 0 (int ∷ x ∷ open_paren ∷ Reserved Const ∷ Reserved Void ∷ close_paren ∷ end ∷ []))) ≡ 2
const_void = refl

-- typedef int T; void a(int T) { (T) - 1; }: the parameter hides T
parameter : unit (typedef_t ++ (Reserved Void ∷ a ∷ open_paren ∷ int ∷ type_t ∷ close_paren ∷ open_brace ∷ open_paren ∷ type_t ∷ close_paren ∷ Marked Minus ∷ one ∷ end ∷ close_brace ∷ [])) ≡ 3
parameter = refl
