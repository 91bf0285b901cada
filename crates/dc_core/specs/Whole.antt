-- How the typed program says a program of the first form: what each part of it is there. Lines are free.
use Rattle.std.specs.Prelude.{◌≡◌, ℕ, Bool, true, false, List, [], ◌∷◌, map, replicate, Option, Some, None, ⊤}
use Rattle.dc_core.specs.Program as first
use Rattle.dc_layout.specs.Types.{PlainType, Void}
use Rattle.dc_program.specs.declared.location.Location.{Location}
use Rattle.dc_program.specs.Expressions.{Expr, Typed, Form, Literal, Static, Local, Argument, ReturnValue, Binary, Assign}
use Rattle.dc_program.specs.Programs.{Function, StaticVariable, Program}
use Rattle.dc_program.specs.Statements.{Clause, Target, Lvalue, Contract, Stmt, Block, Expression, ReturnWith, Stmts, NoStmts, MoreStmts}
use Rattle.dc_program.specs.Types.{int}

-- where an expression stands: in a body, or in a clause
pub data Where : Type 0 where
  InBody : Where
  InClause : Where

-- a clause names the argument at entry
abbrev pub parameter_form : Where → ℕ → Form
parameter_form InBody k = Local k
parameter_form InClause k = Argument k

abbrev pub whole_form : Where → first.Expr → Form
whole_form at (first.Literal z) = Literal z
whole_form at (first.Variable k) = Static k
whole_form at (first.Parameter k) = parameter_form at k
whole_form at first.ReturnValue = ReturnValue
whole_form at (first.Binary op a b) = Binary op (Typed int (whole_form at a)) (Typed int (whole_form at b))

-- every expression is an int
abbrev pub whole_expr : Where → first.Expr → Expr
whole_expr at e = Typed int (whole_form at e)

abbrev pub location : ℕ → ℕ → Location
location site line = record { number = site; line = line }

abbrev pub SaysStmt : first.Stmt → Stmt → Type 0
SaysStmt (first.Assign site target e) s =
    (line : ℕ) × (s ≡ Expression (Typed int (Assign (whole_expr InBody target) (whole_expr InBody e) (location site line))))
SaysStmt (first.Return e) s = s ≡ ReturnWith (whole_expr InBody e)

-- one behind the other
abbrev pub SayStmts : List first.Stmt → Stmts → Type 0
SayStmts [] NoStmts = ⊤
SayStmts (s ∷ body) (MoreStmts t ts) = SaysStmt s t × SayStmts body ts
SayStmts body ts = ⊥

abbrev pub SaysBody : List first.Stmt → Option Stmt → Type 0
SaysBody body (Some (Block ts)) = SayStmts body ts
SaysBody body s = ⊥

abbrev pub SaysClause : first.Expr → Clause → Type 0
SaysClause e c = c.condition ≡ whole_expr InClause e

pub record SaysTarget (e : first.Expr) (t : Target) : Type 0 where
  pub always : t.condition ≡ None
  pub range : t.range ≡ Lvalue (whole_expr InClause e)

-- one by one
abbrev pub Each : {A B : Type 0} → (A → B → Type 0) → List A → List B → Type 0
Each P [] [] = ⊤
Each P (a ∷ as_) (b ∷ bs) = P a b × Each P as_ bs
Each P as_ bs = ⊥

pub record SaysContract (c : first.Contract) (d : Contract) : Type 0 where
  pub required : Each SaysClause c.requires_ d.required
  pub ensured : Each SaysClause c.ensures_ d.ensured
  pub assigned : Each SaysTarget c.assigns d.assigned
  pub freed : d.freed ≡ []

-- a function without clauses may have no contract
abbrev pub SaysClauses : first.Contract → Option Contract → Type 0
SaysClauses c None = c ≡ record { requires_ = []; ensures_ = []; assigns = [] }
SaysClauses c (Some d) = SaysContract c d

abbrev pub result_type : Bool → PlainType
result_type true = int
result_type false = Void

pub record SaysFunction (f : first.Function) (g : Function) : Type 0 where
  pub name : g.name ≡ f.name
  pub result : g.result ≡ result_type f.gives_int
  pub params : g.params ≡ replicate f.params int
  pub contract : SaysClauses f.contract g.contract
  pub body : SaysBody f.body g.body

abbrev pub int_variable : List ℕ → StaticVariable
int_variable name = record { name = name; type = int }

-- the typed program says this program of the first form
pub record Says (p : first.Program) (q : Program) : Type 0 where
  pub function : Function
  pub functions : q.functions ≡ function ∷ []
  pub says : SaysFunction p.function function
  pub statics : q.statics ≡ map int_variable p.statics
  pub structs : q.structs ≡ []
