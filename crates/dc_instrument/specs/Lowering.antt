-- The goto program of a program: its function's body, and the start that draws, checks and calls.
use Rattle.std.specs.Prelude.{ℕ, zero, suc, ◌+◌, pos, Bool, List, [], ◌∷◌, ◌++◌, length, map, codes, Option, None, Some, if◌then◌else◌}
use Rattle.dc_num.specs.declared.kind.NumKind.{NumKind}
use Rattle.dc_num.specs.declared.kind.NumKind.TheVariants.{S32, U64}
use Rattle.dc_core.specs.Assertion.{assigns_name, postcondition_name}
use Rattle.dc_core.specs.Program as program
use Rattle.dc_core.specs.Program.{Expr, Stmt, Function, Program}
use Rattle.dc_core.specs.Term.{Term, Constant, Register, Object, Load, Binary}
use Rattle.dc_goto.specs.Program.{Instr, Set, Store, Init, Local, Covers, Call, Return, Trap, Statics, OutsideObjects, Draw, Seen, Require, Push, Range, Check, Pop, Sig, StaticVar, Body, GotoProgram}
use Rattle.dc_goto.specs.declared.operands.Bytes.TheVariants.{Zero}
use Rattle.dc_instrument.specs.declared.places.Places.{Places}
use Rattle.dc_instrument.specs.declared.places.Places.TheVariants as places

-- the function is object 1, and the variables, from number 0, are the objects behind it
abbrev pub variable_term : ℕ → Term
variable_term k = Object (suc (suc k))

abbrev pub parameter_term : Places → ℕ → Term
parameter_term (places.Body first) k = Load S32 (Register (first + k))
parameter_term (places.Clauses result) k = Register k

-- no body names the result
abbrev pub result_term : Places → Term
result_term (places.Body first) = Constant S32 (pos 0)
result_term (places.Clauses result) = Register result

abbrev pub term_of : Places → Expr → Term
term_of at (program.Literal z) = Constant S32 z
term_of at (program.Variable k) = Load S32 (variable_term k)
term_of at (program.Parameter k) = parameter_term at k
term_of at program.ReturnValue = result_term at
term_of at (program.Binary op a b) = Binary op S32 (term_of at a) (term_of at b)

-- a parameter is an object in the body alone
abbrev pub parameter_place_term : Places → ℕ → Term
parameter_place_term (places.Body first) k = Register (first + k)
parameter_place_term (places.Clauses result) k = Constant U64 (pos 0)

-- the place of a variable or parameter; what has no place has the null pointer's
abbrev pub place_term : Places → Expr → Term
place_term at (program.Literal z) = Constant U64 (pos 0)
place_term at (program.Variable k) = variable_term k
place_term at (program.Parameter k) = parameter_place_term at k
place_term at program.ReturnValue = Constant U64 (pos 0)
place_term at (program.Binary op a b) = Constant U64 (pos 0)

abbrev pub int_len : Term
int_len = Constant U64 (pos 4)

-- that many parameters from number i on become objects, named by the registers from `first` on
abbrev pub parameters_code : ℕ → ℕ → ℕ → List Instr
parameters_code first i zero = []
parameters_code first i (suc n) =
    Local (first + i) 4 Zero ∷ Init S32 (Register (first + i)) (Register i) ∷ parameters_code first (suc i) n

-- the statements of a function whose parameters' objects are named from `first` on; each takes a new register
abbrev pub statements_code : List ℕ → ℕ → ℕ → List Stmt → List Instr
statements_code function first register [] = []
statements_code function first register (program.Assign site place value ∷ rest) =
    Set register (term_of (places.Body first) value)
    ∷ Covers (assigns_name function site) (place_term (places.Body first) place) int_len
    ∷ Store S32 (place_term (places.Body first) place) (Register register)
    ∷ statements_code function first (suc register) rest
statements_code function first register (program.Return value ∷ rest) =
    Set register (term_of (places.Body first) value)
    ∷ Return (Some (Register register))
    ∷ statements_code function first (suc register) rest

-- the end of a body: one that should have returned a value is undefined there
abbrev pub last_instr : Bool → Instr
last_instr gives_int = if gives_int then Trap else Return None

abbrev pub function_body : Function → Body
function_body f =
    record {
      name = f.name;
      params = f.params;
      regs = f.params + f.params + length f.body;
      code =
          parameters_code f.params 0 f.params
          ++ (statements_code f.name f.params (f.params + f.params) f.body ++ last_instr f.gives_int ∷ []);
    }

-- that many arguments from number i on are drawn
abbrev pub draws_code : ℕ → ℕ → List Instr
draws_code i zero = []
draws_code i (suc n) = Draw i S32 ∷ draws_code (suc i) n

abbrev pub argument_terms : ℕ → ℕ → List Term
argument_terms i zero = []
argument_terms i (suc n) = Register i ∷ argument_terms (suc i) n

-- tests of clauses begin with an empty list of seen objects
abbrev pub group_code : List Instr → List Instr
group_code [] = []
group_code (test ∷ tests) = Seen ∷ test ∷ tests

abbrev pub require_code : Places → List Expr → List Instr
require_code at requires_ = map (λ e. Require (term_of at e)) requires_

-- the targets from number k on
abbrev pub ranges_code : Places → ℕ → List Expr → List Instr
ranges_code at k [] = []
ranges_code at k (target ∷ targets) =
    Range k (Constant S32 (pos 1)) (place_term at target) int_len ∷ ranges_code at (suc k) targets

-- the ensures from number k on
abbrev pub checks_code : List ℕ → Places → ℕ → List Expr → List Instr
checks_code function at k [] = []
checks_code function at k (e ∷ ensures_) =
    Check (postcondition_name function k) (term_of at e) ∷ checks_code function at (suc k) ensures_

-- the register of the result, if there is one
abbrev pub result_register : Function → Option ℕ
result_register f = if f.gives_int then Some f.params else None

abbrev pub result_value : Function → Option Term
result_value f = if f.gives_int then Some (Register f.params) else None

abbrev pub clauses_of : Function → Places
clauses_of f = places.Clauses f.params

abbrev pub call_code : Function → List Instr
call_code f = Call (result_register f) f.name (argument_terms 0 f.params) ∷ []

abbrev pub start_code : Function → List Instr
start_code f =
    Statics
    ∷ OutsideObjects
    ∷ (draws_code 0 f.params
    ++ (group_code (require_code (clauses_of f) f.contract.requires_)
    ++ (Push
    ∷ (ranges_code (clauses_of f) 1 f.contract.assigns
    ++ (call_code f
    ++ (group_code (checks_code f.name (clauses_of f) 1 f.contract.ensures_)
    ++ (Pop ∷ Return (result_value f) ∷ [])))))))

abbrev pub start_regs : Function → ℕ
start_regs f = f.params + (if f.gives_int then 1 else 0)

abbrev pub start_body : Function → Body
start_body f = record { name = codes ".start"; params = 0; regs = start_regs f; code = start_code f }

abbrev pub ints : ℕ → List NumKind
ints zero = []
ints (suc n) = S32 ∷ ints n

abbrev pub result_kind : Bool → Option NumKind
result_kind gives_int = if gives_int then Some S32 else None

abbrev pub sig_of : Function → Sig
sig_of f = record { name = f.name; result = result_kind f.gives_int; params = ints f.params }

abbrev pub int_static : List ℕ → StaticVar
int_static name = record { name = name; size = 4 }

abbrev pub goto_of : Program → GotoProgram
goto_of p =
    record {
      functions = sig_of p.function ∷ [];
      statics = map int_static p.statics;
      bodies = function_body p.function ∷ start_body p.function ∷ [];
    }
