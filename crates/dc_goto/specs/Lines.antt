-- The lines of a goto text, and which bytes are one.
use Rattle.std.specs.Prelude.{◌≡◌, ◌≢◌, ℕ, suc, ◌^◌, ◌<◌, ◌≤◌, max, ℤ, pos, negsuc, Bool, true, false, ◌&&◌, ◌||◌, ◌==◌, List, [], ◌∷◌, ◌++◌, length, map, flat_map, codes, Option, None, Some}
use Rattle.std.specs.List.{list_all, AllByRecursion}
use Rattle.dc_core.specs.Term.{Term, Constant, Register, Variable, Object, Load, Convert, Unary, Binary, Lazy, Choice, Moved, Distance, Asked, Tested, Between, Quantified}
use Rattle.dc_text.specs.Words.{same, is_word, is_word_part}
use Rattle.dc_goto.specs.Program.{Instr, Set, Keep, Draw, Store, Init, Copy, Fill, Probe, Local, Kill, Alloc, Free, Trap, Goto, IfNot, Call, CallThrough, Return, Assert, Check, Assume, Require, Push, Pop, Range, Target, Covers, MayFree, Inside, Seen, Havoc, Frees, Statics, OutsideObjects, NewObjects, Sig, StaticVar, Body, GotoProgram}
use Rattle.dc_goto.specs.Text.{sig_line, static_line, body_lines, instr_line, line_bytes}

-- the first line of a body: its name, and the numbers of its parameters and registers
pub record BodyHead : Type 0 where
  pub name : List ℕ
  pub params : ℕ
  pub regs : ℕ

-- what a line says
pub data Line : Type 0 where
  Version : Line
  Function : Sig → Line
  Static : StaticVar → Line
  Opening : BodyHead → Line
  Instruction : Instr → Line
  End : Line

-- The lines of a program ------------------------------------------------------------------------------------------

abbrev pub head_of : Body → BodyHead
head_of body = record { name = body.name; params = body.params; regs = body.regs }

abbrev pub forms_of_body : Body → List Line
forms_of_body body = Opening (head_of body) ∷ (map Instruction body.code ++ End ∷ [])

abbrev pub forms_of : GotoProgram → List Line
forms_of p = Version ∷ (map Function p.functions ++ (map Static p.statics ++ flat_map forms_of_body p.bodies))

-- The bytes of a line ---------------------------------------------------------------------------------------------

abbrev pub first_line : List (List ℕ) → List ℕ
first_line [] = []
first_line (line ∷ lines) = line

abbrev pub bodiless : BodyHead → Body
bodiless head = record { name = head.name; params = head.params; regs = head.regs; code = [] }

-- without the newline; the first line of a body is the same whatever its code is
abbrev pub line_text : Line → List ℕ
line_text Version = codes "dcc 1"
line_text (Function sig) = sig_line sig
line_text (Static v) = static_line v
line_text (Opening head) = first_line (body_lines (bodiless head))
line_text (Instruction i) = instr_line i
line_text End = codes "end"

abbrev pub form_bytes : Line → List ℕ
form_bytes line = line_bytes (line_text line)

-- What a line may hold --------------------------------------------------------------------------------------------

-- a number other than a constant
abbrev pub IsNumber : ℕ → Type 0
IsNumber n = n < 2 ^ 64

-- -2^127 to 2^127 - 1
abbrev pub IsConstant : ℤ → Type 0
IsConstant (pos n) = n < 2 ^ 127
IsConstant (negsuc n) = n < 2 ^ 127

-- the numbers of an expression may stand in a line
abbrev pub HasNumbers : Term → Type 0
HasNumbers (Constant kind z) = IsConstant z
HasNumbers (Register r) = IsNumber r
HasNumbers (Variable d) = IsNumber d
HasNumbers (Object n) = IsNumber n
HasNumbers (Load kind a) = HasNumbers a
HasNumbers (Convert to from e) = HasNumbers e
HasNumbers (Unary op kind e) = HasNumbers e
HasNumbers (Binary op kind a b) = HasNumbers a × HasNumbers b
HasNumbers (Lazy op a b) = HasNumbers a × HasNumbers b
HasNumbers (Choice a b c) = HasNumbers a × HasNumbers b × HasNumbers c
HasNumbers (Moved size p n) = IsNumber size × HasNumbers p × HasNumbers n
HasNumbers (Distance size p q) = IsNumber size × HasNumbers p × HasNumbers q
HasNumbers (Asked of p) = HasNumbers p
HasNumbers (Tested test p n) = HasNumbers p × HasNumbers n
HasNumbers (Between a b c) = HasNumbers a × HasNumbers b × HasNumbers c
HasNumbers (Quantified q d kind a b c) = IsNumber d × HasNumbers a × HasNumbers b × HasNumbers c

-- 1, and one more than the greatest height of the parts
abbrev pub height : Term → ℕ
height (Constant kind z) = 1
height (Register r) = 1
height (Variable d) = 1
height (Object n) = 1
height (Load kind a) = suc (height a)
height (Convert to from e) = suc (height e)
height (Unary op kind e) = suc (height e)
height (Binary op kind a b) = suc (max (height a) (height b))
height (Lazy op a b) = suc (max (height a) (height b))
height (Choice a b c) = suc (max (height a) (max (height b) (height c)))
height (Moved size p n) = suc (max (height p) (height n))
height (Distance size p q) = suc (max (height p) (height q))
height (Asked of p) = suc (height p)
height (Tested test p n) = suc (max (height p) (height n))
height (Between a b c) = suc (max (height a) (max (height b) (height c)))
height (Quantified q d kind a b c) = suc (max (height a) (max (height b) (height c)))

-- expressions are at most that high
unfoldable pub height_limit : ℕ
height_limit = 1024

-- an expression that may stand in a line
pub record IsTerm (t : Term) : Type 0 where
  pub numbers : HasNumbers t
  pub low : height t ≤ height_limit

-- a letter, a digit, `_` or a dot
abbrev pub is_check_part : ℕ → Bool
is_check_part b = is_word_part b || b == 46

-- the name of a check: one or more of these
abbrev pub is_check_name : List ℕ → Bool
is_check_name [] = false
is_check_name (b ∷ bytes) = is_check_part b && list_all is_check_part bytes

-- the name of a body: a function's, or that of the start
abbrev pub is_body_name : List ℕ → Bool
is_body_name name = is_word name || same name (codes ".start")

abbrev pub IsOptionalNumber : Option ℕ → Type 0
IsOptionalNumber None = Unit {0}
IsOptionalNumber (Some n) = IsNumber n

abbrev pub IsOptionalTerm : Option Term → Type 0
IsOptionalTerm None = Unit {0}
IsOptionalTerm (Some t) = IsTerm t

-- the name of a check
abbrev pub IsCheckName : List ℕ → Type 0
IsCheckName name = is_check_name name ≡ true

-- an instruction that may stand in a line
abbrev pub IsInstr : Instr → Type 0
IsInstr (Set r e) = IsNumber r × IsTerm e
IsInstr (Keep r e) = IsNumber r × IsTerm e
IsInstr (Draw r kind) = IsNumber r
IsInstr (Store kind a e) = IsTerm a × IsTerm e
IsInstr (Init kind a e) = IsTerm a × IsTerm e
IsInstr (Copy a b n) = IsTerm a × IsTerm b × IsTerm n
IsInstr (Fill a e n) = IsTerm a × IsTerm e × IsTerm n
IsInstr (Probe sharing a b n) = IsTerm a × IsTerm b × IsTerm n
IsInstr (Local r size bytes) = IsNumber r × IsNumber size
IsInstr (Kill m) = IsNumber m
IsInstr (Alloc r n m bytes) = IsNumber r × IsTerm n × IsTerm m
IsInstr (Free p) = IsTerm p
IsInstr Trap = Unit {0}
IsInstr (Goto place) = IsNumber place
IsInstr (IfNot e place) = IsTerm e × IsNumber place
IsInstr (Call r name arguments) = IsOptionalNumber r × (is_word name ≡ true) × AllByRecursion IsTerm arguments
IsInstr (CallThrough r e result params arguments) = IsOptionalNumber r × IsTerm e × AllByRecursion IsTerm arguments
IsInstr (Return value) = IsOptionalTerm value
IsInstr (Assert name e) = IsCheckName name × IsTerm e
IsInstr (Check name e) = IsCheckName name × IsTerm e
IsInstr (Assume e) = IsTerm e
IsInstr (Require e) = IsTerm e
IsInstr Push = Unit {0}
IsInstr Pop = Unit {0}
IsInstr (Range tag e a n) = IsNumber tag × IsTerm e × IsTerm a × IsTerm n
IsInstr (Target tag e p) = IsNumber tag × IsTerm e × IsTerm p
IsInstr (Covers name a n) = IsCheckName name × IsTerm a × IsTerm n
IsInstr (MayFree name p) = IsCheckName name × IsTerm p
IsInstr (Inside name tag) = IsCheckName name × IsNumber tag
IsInstr Seen = Unit {0}
IsInstr Havoc = Unit {0}
IsInstr Frees = Unit {0}
IsInstr Statics = Unit {0}
IsInstr OutsideObjects = Unit {0}
IsInstr NewObjects = Unit {0}

-- a line form
abbrev pub IsForm : Line → Type 0
IsForm Version = Unit {0}
IsForm (Function sig) = is_word sig.name ≡ true
IsForm (Static v) = (is_word v.name ≡ true) × IsNumber v.size
IsForm (Opening head) = (is_body_name head.name ≡ true) × IsNumber head.params × IsNumber head.regs
IsForm (Instruction i) = IsInstr i
IsForm End = Unit {0}

-- The lines of a text ---------------------------------------------------------------------------------------------

-- the bytes are these line forms, each with its newline
pub record AreLines (bytes : List ℕ) (lines : List Line) : Type 0 where
  pub formed : AllByRecursion IsForm lines
  pub text : bytes ≡ flat_map form_bytes lines

-- the first line that is no line form has this number, counted from 1: line forms stand before it, and what stands
-- behind them begins with none
pub record FirstFormless (bytes : List ℕ) (k : ℕ) : Type 0 where
  pub before : List Line
  pub behind : List ℕ
  pub formed : AllByRecursion IsForm before
  pub text : bytes ≡ flat_map form_bytes before ++ behind
  pub there : behind ≢ []
  pub formless : (line : Line) (rest : List ℕ) → IsForm line → behind ≡ form_bytes line ++ rest → ⊥
  pub number : k ≡ suc (length before)
