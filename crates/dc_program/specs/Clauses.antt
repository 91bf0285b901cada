-- When clauses, targets and contracts could stand in a program.
use Rattle.std.specs.Prelude.{◌≡◌, true, false, Option, Some, None, List, [], All, ⊤, if◌then◌else◌}
use Rattle.dc_layout.specs.Types.{PlainType}
use Rattle.dc_program.specs.Expressions.{Expr, type_of}
use Rattle.dc_program.specs.Statements.{Clause, Range, Lvalue, ObjectWhole, ObjectFrom, ObjectUpto, Object, Target, Contract, LoopContract}
use Rattle.dc_program.specs.Programs.{Program, Function}
use Rattle.dc_program.specs.Stands.{Text, Requires, Ensures, Targets, LoopTargets, Invariant, Measure, Setting, LocalName, Stands, is_lvalue}
use Rattle.dc_program.specs.Types.{is_number, is_object_pointer, is_scalar, is_void}

-- what a function's clause may name: the arguments at entry
abbrev pub in_contract : Text → Function → Setting
in_contract text f = record { text = text; locals = []; arguments = f.params; kept = []; quantified = []; result = None; fresh = true }

abbrev pub result_type : PlainType → Option PlainType
result_type t = if is_void t then None else Some t

abbrev pub in_ensures : Function → Setting
in_ensures f = record (in_contract Ensures f) { result = result_type f.result }

-- what a loop's clause may name: the parameters and locals in force
abbrev pub in_loop_contract : Text → List LocalName → Setting
in_loop_contract text locals = record { text = text; locals = locals; arguments = []; kept = []; quantified = []; result = None; fresh = false }

-- a condition is a number or pointer
pub record ConditionStands (p : Program) (s : Setting) (e : Expr) : Type 0 where
  pub stands : Stands p s e
  pub scalar : is_scalar (type_of e) ≡ true

abbrev pub OptionStands : Program → Setting → Option Expr → Type 0
OptionStands p s None = ⊤
OptionStands p s (Some e) = ConditionStands p s e

abbrev pub ClauseStands : Program → Setting → Clause → Type 0
ClauseStands p s c = ConditionStands p s c.condition

-- a pointer to an object
pub record PointerStands (p : Program) (s : Setting) (e : Expr) : Type 0 where
  pub stands : Stands p s e
  pub pointer : is_object_pointer (type_of e) ≡ true

pub record NumberStands (p : Program) (s : Setting) (e : Expr) : Type 0 where
  pub stands : Stands p s e
  pub number : is_number (type_of e) ≡ true

pub record LvalueStands (p : Program) (s : Setting) (e : Expr) : Type 0 where
  pub stands : Stands p s e
  pub lvalue : is_lvalue e ≡ true

-- what may be written
abbrev pub AssignedStands : Program → Setting → Range → Type 0
AssignedStands p s (Lvalue e) = LvalueStands p s e
AssignedStands p s (ObjectWhole e) = PointerStands p s e
AssignedStands p s (ObjectFrom e) = PointerStands p s e
AssignedStands p s (ObjectUpto e n) = PointerStands p s e × NumberStands p s n
AssignedStands p s (Object e) = ⊥

-- what may be freed
abbrev pub FreedStands : Program → Setting → Range → Type 0
FreedStands p s (Object e) = PointerStands p s e
FreedStands p s range = ⊥

abbrev pub AssignedTargetStands : Program → Setting → Target → Type 0
AssignedTargetStands p s t = OptionStands p s t.condition × AssignedStands p s t.range

abbrev pub FreedTargetStands : Program → Setting → Target → Type 0
FreedTargetStands p s t = OptionStands p s t.condition × FreedStands p s t.range

pub record ContractStands (p : Program) (f : Function) (c : Contract) : Type 0 where
  pub required : All (ClauseStands p (in_contract Requires f)) c.required
  pub ensured : All (ClauseStands p (in_ensures f)) c.ensured
  pub assigned : All (AssignedTargetStands p (in_contract Targets f)) c.assigned
  pub freed : All (FreedTargetStands p (in_contract Targets f)) c.freed

pub record LoopContractStands (p : Program) (locals : List LocalName) (c : LoopContract) : Type 0 where
  pub assigned : All (AssignedTargetStands p (in_loop_contract LoopTargets locals)) c.assigned
  pub invariants : All (ClauseStands p (in_loop_contract Invariant locals)) c.invariants
  pub measures : All (NumberStands p (in_loop_contract Measure locals)) c.measures

abbrev pub OptionContractStands : Program → Function → Option Contract → Type 0
OptionContractStands p f None = ⊤
OptionContractStands p f (Some c) = ContractStands p f c

abbrev pub OptionLoopContractStands : Program → List LocalName → Option LoopContract → Type 0
OptionLoopContractStands p locals None = ⊤
OptionLoopContractStands p locals (Some c) = LoopContractStands p locals c
