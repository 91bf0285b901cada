-- The rules for the lines of a goto text.
use Rattle.std.specs.Prelude.{◌≡◌, ℕ, suc, ◌+◌, Bool, true, false, ◌&&◌, ◌||◌, not, ◌==◌, nat_lt, nat_le, if◌then◌else◌, List, [], ◌∷◌, ◌++◌, length, reverse, flat_map, codes, Option, None, Some, slice_get}
use Rattle.std.specs.List.{list_all, list_any, position_or_len, AllByRecursion}
use Rattle.dc_num.specs.declared.operators.BinOp.{BinOp}
use Rattle.dc_num.specs.declared.operators.BinOp.TheVariants.{Lt, Le, Gt, Ge, Eq, Ne}
use Rattle.dc_num.specs.declared.kind.NumKind.{NumKind}
use Rattle.dc_num.specs.Kinds.{is_pointer, is_value}
use Rattle.dc_core.specs.Term.{Term, Constant, Register, Variable, Object, Load, Convert, Unary, Binary, Lazy, Choice, Moved, Distance, Asked, Tested, Between, Quantified}
use Rattle.dc_text.specs.Words.{same}
use Rattle.dc_goto.specs.Program.{Instr, Set, Keep, Draw, Store, Init, Copy, Fill, Probe, Local, Kill, Alloc, Free, Trap, Goto, IfNot, Call, CallThrough, Return, Assert, Check, Assume, Require, Push, Pop, Range, Target, Covers, MayFree, Inside, Seen, Havoc, Frees, Statics, OutsideObjects, NewObjects, Sig, GotoProgram}
use Rattle.dc_goto.specs.Text.{IsSpelt}
use Rattle.dc_goto.specs.Lines.{BodyHead, Line, Version, Function, Static, Opening, Instruction, End, IsForm, AreLines, forms_of}

-- What stands in lines ----------------------------------------------------------------------------------------------

abbrev pub function_in : Line → List Sig
function_in (Function sig) = sig ∷ []
function_in line = []

abbrev pub name_in : Line → List (List ℕ)
name_in (Function sig) = sig.name ∷ []
name_in (Static v) = v.name ∷ []
name_in line = []

abbrev pub head_in : Line → List BodyHead
head_in (Opening head) = head ∷ []
head_in line = []

-- the functions that are listed
abbrev pub functions_in : List Line → List Sig
functions_in lines = flat_map function_in lines

-- the names of functions and variables
abbrev pub names_in : List Line → List (List ℕ)
names_in lines = flat_map name_in lines

-- the bodies that begin
abbrev pub heads_in : List Line → List BodyHead
heads_in lines = flat_map head_in lines

abbrev pub last : {A : Type 0} → List A → Option A
last [] = None
last (x ∷ []) = Some x
last (x ∷ next ∷ xs) = last (next ∷ xs)

abbrev pub first : {A : Type 0} → List A → Option A
first [] = None
first (x ∷ xs) = Some x

-- the place of a name in the order of the functions, which is behind them all for a name that isn't theirs
abbrev pub place_of : List Sig → List ℕ → ℕ
place_of functions name = position_or_len (λ sig. same name sig.name) functions

-- the function of that name
abbrev pub sig_of : List Sig → List ℕ → Option Sig
sig_of functions name = slice_get functions (place_of functions name)

-- The order of the lines ----------------------------------------------------------------------------------------------

-- whether a line may stand directly behind another, or first: the version, the functions, the variables, and the
-- bodies, each with one instruction at least
abbrev pub may_follow : Option Line → Line → Bool
may_follow None Version = true
may_follow (Some Version) (Function sig) = true
may_follow (Some Version) (Static v) = true
may_follow (Some Version) (Opening head) = true
may_follow (Some (Function sig)) (Function next) = true
may_follow (Some (Function sig)) (Static v) = true
may_follow (Some (Function sig)) (Opening head) = true
may_follow (Some (Static v)) (Static next) = true
may_follow (Some (Static v)) (Opening head) = true
may_follow (Some (Opening head)) (Instruction i) = true
may_follow (Some (Instruction i)) (Instruction next) = true
may_follow (Some (Instruction i)) End = true
may_follow (Some End) (Opening head) = true
may_follow before line = false

-- Names and bodies --------------------------------------------------------------------------------------------------

-- functions and variables together are at most that many
unfoldable pub names_limit : ℕ
names_limit = 32767

-- one more name, other than those before it
abbrev pub may_name : List (List ℕ) → List ℕ → Bool
may_name names name = not (list_any (same name) names) && nat_lt (length names) names_limit

-- sizes are 1 to 16,777,216
abbrev pub is_size : ℕ → Bool
is_size n = nat_le 1 n && nat_le n 16777216

-- how many parameters the function of that name has; the start has none
abbrev pub params_of : Option Sig → ℕ
params_of None = 0
params_of (Some sig) = length sig.params

-- the place is behind the last body's
abbrev pub is_behind : List Sig → Option BodyHead → ℕ → Bool
is_behind functions None place = true
is_behind functions (Some head) place = nat_lt (place_of functions head.name) place

abbrev pub is_listed : List Sig → List ℕ → Bool
is_listed functions name = nat_lt (place_of functions name) (length functions)

-- a body: of a function that is listed, or of the start, in the order of these, with the function's number of
-- parameters, and as many registers at least
abbrev pub may_open : List Sig → Option BodyHead → BodyHead → Bool
may_open functions before head =
    (is_listed functions head.name || same head.name (codes ".start"))
    && is_behind functions before (place_of functions head.name)
    && head.params == params_of (sig_of functions head.name)
    && nat_le head.params head.regs

-- Instructions --------------------------------------------------------------------------------------------------------

abbrev pub is_comparison : BinOp → Bool
is_comparison Lt = true
is_comparison Le = true
is_comparison Gt = true
is_comparison Ge = true
is_comparison Eq = true
is_comparison Ne = true
is_comparison op = false

-- comparisons are of pointers too, arithmetic is not
abbrev pub may_compute : BinOp → NumKind → Bool
may_compute op kind = is_comparison op || not (is_pointer kind)

-- registers are below the body's number of registers, objects at most the number of functions and variables, and variables
-- those of so many quantifiers around; constants fit their kind, sizes the limit; a quantifier has the nesting that it says
abbrev pub may_mean_in : ℕ → ℕ → ℕ → Term → Bool
may_mean_in objects regs nesting (Constant kind z) = is_value kind z
may_mean_in objects regs nesting (Register r) = nat_lt r regs
may_mean_in objects regs nesting (Variable d) = nat_lt d nesting
may_mean_in objects regs nesting (Object n) = nat_le n objects
may_mean_in objects regs nesting (Load kind a) = may_mean_in objects regs nesting a
may_mean_in objects regs nesting (Convert to from e) = may_mean_in objects regs nesting e
may_mean_in objects regs nesting (Unary op kind e) = not (is_pointer kind) && may_mean_in objects regs nesting e
may_mean_in objects regs nesting (Binary op kind a b) =
    may_compute op kind && may_mean_in objects regs nesting a && may_mean_in objects regs nesting b
may_mean_in objects regs nesting (Lazy op a b) = may_mean_in objects regs nesting a && may_mean_in objects regs nesting b
may_mean_in objects regs nesting (Choice a b c) =
    may_mean_in objects regs nesting a && may_mean_in objects regs nesting b && may_mean_in objects regs nesting c
may_mean_in objects regs nesting (Moved size p n) =
    is_size size && may_mean_in objects regs nesting p && may_mean_in objects regs nesting n
may_mean_in objects regs nesting (Distance size p q) =
    is_size size && may_mean_in objects regs nesting p && may_mean_in objects regs nesting q
may_mean_in objects regs nesting (Asked of p) = may_mean_in objects regs nesting p
may_mean_in objects regs nesting (Tested test p n) = may_mean_in objects regs nesting p && may_mean_in objects regs nesting n
may_mean_in objects regs nesting (Between a b c) =
    may_mean_in objects regs nesting a && may_mean_in objects regs nesting b && may_mean_in objects regs nesting c
may_mean_in objects regs nesting (Quantified q d kind a b c) =
    d == nesting && may_mean_in objects regs nesting a && may_mean_in objects regs nesting b
    && may_mean_in objects regs (suc nesting) c

-- with no quantifier around
abbrev pub may_mean : ℕ → ℕ → Term → Bool
may_mean objects regs e = may_mean_in objects regs 0 e

abbrev pub may_take : ℕ → Option ℕ → Bool
may_take regs None = true
may_take regs (Some r) = nat_lt r regs

abbrev pub is_some : {A : Type 0} → Option A → Bool
is_some None = false
is_some (Some x) = true

-- a call has as many arguments as there are parameters, and no register where nothing is given
abbrev pub may_pass : Option NumKind → List NumKind → Option ℕ → ℕ → Bool
may_pass result params r arguments = (arguments == length params) && (is_some result || not (is_some r))

-- a called function is listed
abbrev pub may_call : Option Sig → Option ℕ → ℕ → Bool
may_call None r arguments = false
may_call (Some sig) r arguments = may_pass sig.result sig.params r arguments

-- a value is returned exactly where the function gives one; the start may do either
abbrev pub may_return : Option Sig → Option Term → Bool
may_return None value = true
may_return (Some sig) None = not (is_some sig.result)
may_return (Some sig) (Some value) = is_some sig.result

abbrev pub may_give : ℕ → ℕ → Option Term → Bool
may_give objects regs None = true
may_give objects regs (Some value) = may_mean objects regs value

-- an instruction of a body with so many instructions, where those functions and that many objects are
abbrev pub may_act : List Sig → ℕ → BodyHead → ℕ → Instr → Bool
may_act functions objects head count (Set r e) = nat_lt r head.regs && may_mean objects head.regs e
may_act functions objects head count (Keep r e) = nat_lt r head.regs && may_mean objects head.regs e
may_act functions objects head count (Draw r kind) = nat_lt r head.regs
may_act functions objects head count (Store kind a e) = may_mean objects head.regs a && may_mean objects head.regs e
may_act functions objects head count (Init kind a e) = may_mean objects head.regs a && may_mean objects head.regs e
may_act functions objects head count (Copy a b n) = may_mean objects head.regs a && may_mean objects head.regs b && may_mean objects head.regs n
may_act functions objects head count (Fill a e n) = may_mean objects head.regs a && may_mean objects head.regs e && may_mean objects head.regs n
may_act functions objects head count (Probe sharing a b n) = may_mean objects head.regs a && may_mean objects head.regs b && may_mean objects head.regs n
may_act functions objects head count (Local r size bytes) = nat_lt r head.regs && is_size size
may_act functions objects head count (Kill m) = true
may_act functions objects head count (Alloc r n m bytes) = nat_lt r head.regs && may_mean objects head.regs n && may_mean objects head.regs m
may_act functions objects head count (Free p) = may_mean objects head.regs p
may_act functions objects head count Trap = true
may_act functions objects head count (Goto place) = nat_lt place count
may_act functions objects head count (IfNot e place) = may_mean objects head.regs e && nat_lt place count
may_act functions objects head count (Call r name arguments) =
    may_call (sig_of functions name) r (length arguments) && may_take head.regs r
    && list_all (may_mean objects head.regs) arguments
may_act functions objects head count (CallThrough r e result params arguments) =
    may_pass result params r (length arguments) && may_take head.regs r && may_mean objects head.regs e
    && list_all (may_mean objects head.regs) arguments
may_act functions objects head count (Return value) =
    may_return (sig_of functions head.name) value && may_give objects head.regs value
may_act functions objects head count (Assert name e) = may_mean objects head.regs e
may_act functions objects head count (Check name e) = may_mean objects head.regs e
may_act functions objects head count (Assume e) = may_mean objects head.regs e
may_act functions objects head count (Require e) = may_mean objects head.regs e
may_act functions objects head count Push = true
may_act functions objects head count Pop = true
may_act functions objects head count (Range tag e a n) = may_mean objects head.regs e && may_mean objects head.regs a && may_mean objects head.regs n
may_act functions objects head count (Target tag e p) = may_mean objects head.regs e && may_mean objects head.regs p
may_act functions objects head count (Covers name a n) = may_mean objects head.regs a && may_mean objects head.regs n
may_act functions objects head count (MayFree name p) = may_mean objects head.regs p
may_act functions objects head count (Inside name tag) = true
may_act functions objects head count Seen = true
may_act functions objects head count Havoc = true
may_act functions objects head count Frees = true
may_act functions objects head count Statics = true
may_act functions objects head count OutsideObjects = true
may_act functions objects head count NewObjects = true

-- an instruction in the last body
abbrev pub may_act_in : List Sig → ℕ → Option BodyHead → ℕ → Instr → Bool
may_act_in functions objects None count i = false
may_act_in functions objects (Some head) count i = may_act functions objects head count i

-- how many instructions stand at the front of lines
abbrev pub code_front : List Line → ℕ
code_front [] = 0
code_front (Instruction i ∷ lines) = suc (code_front lines)
code_front (line ∷ lines) = 0

-- how many instructions a body has, some of them at the end of those lines and the others at the front of these, also where
-- its end is missing
abbrev pub code_around : List Line → List Line → ℕ
code_around before lines = code_front (reverse before) + code_front lines

-- the last instruction of a body leaves it, or goes on elsewhere
abbrev pub leaves : Instr → Bool
leaves (Return value) = true
leaves (Goto place) = true
leaves Trap = true
leaves i = false

-- another instruction of the body stands there
abbrev pub goes_on : Option Line → Bool
goes_on (Some (Instruction i)) = true
goes_on line = false

-- The rules -------------------------------------------------------------------------------------------------------------

-- what a line may say between those before it and those behind it
abbrev pub may_say : List Line → Line → List Line → Bool
may_say before Version after = true
may_say before (Function sig) after = may_name (names_in before) sig.name
may_say before (Static v) after = may_name (names_in before) v.name && is_size v.size
may_say before (Opening head) after = may_open (functions_in before) (last (heads_in before)) head
may_say before (Instruction i) after =
    may_act_in (functions_in before) (length (names_in before)) (last (heads_in before)) (code_around before (Instruction i ∷ after)) i
    && (leaves i || goes_on (first after))
may_say before End after = true

-- a line keeps the rules between those before it and those behind it
abbrev pub keeps : List Line → Line → List Line → Bool
keeps before line after = may_follow (last before) line && may_say before line after

abbrev pub is_end : Option Line → Bool
is_end (Some End) = true
is_end line = false

abbrev pub is_start : Option BodyHead → Bool
is_start None = false
is_start (Some head) = same head.name (codes ".start")

-- nothing is missing behind the lines: the start's body stands there, with its end
abbrev pub is_whole : List Line → Bool
is_whole lines = is_end (last lines) && is_start (last (heads_in lines))

-- of the lines behind those, the number of the first that breaks a rule, or one past the last where something is missing
abbrev pub first_broken : List Line → List Line → Option ℕ
first_broken before [] = if is_whole before then None else Some (suc (length before))
first_broken before (line ∷ after) =
    if keeps before line after then first_broken (before ++ line ∷ []) after else Some (suc (length before))

-- the number, counted from 1, of the first line that breaks a rule, or one past the last where something is missing
abbrev pub first_misshapen : List Line → Option ℕ
first_misshapen lines = first_broken [] lines

-- the program's lines keep the rules, and none is missing
abbrev pub IsShaped : GotoProgram → Type 0
IsShaped p = first_misshapen (forms_of p) ≡ None

-- the bytes are the text of this program, in line forms that keep the rules
pub record IsGotoText (bytes : List ℕ) (p : GotoProgram) : Type 0 where
  pub spelt : IsSpelt bytes p
  pub formed : AllByRecursion IsForm (forms_of p)
  pub shaped : IsShaped p

-- the bytes are line forms, and the first line that breaks a rule, or is missing, has this number
pub record Misshapen (bytes : List ℕ) (k : ℕ) : Type 0 where
  pub lines : List Line
  pub text : AreLines bytes lines
  pub broken : first_misshapen lines ≡ Some k
