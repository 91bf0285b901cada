-- Programs that may be run: what they name is there, and numbers are values of their types.
use Rattle.std.specs.Prelude.{◌≡◌, ◌<◌, ◌≤◌, Bool, true, false, length, All, codes, nat_eq}
use Rattle.std.specs.Cmp.Lexicographic.{pointwise}
use Rattle.dc_num.specs.declared.kind.NumKind.TheVariants.{S32}
use Rattle.dc_num.specs.Kinds.{IsValue}
use Rattle.dc_core.specs.Program.{Expr, Literal, Variable, Parameter, ReturnValue, Binary, Stmt, Assign, Return, Program}

-- an expression could stand in the program; the result is named only where it may be
abbrev pub Stands : Program → Bool → Expr → Type 0
Stands p result (Literal z) = IsValue S32 z
Stands p result (Variable k) = k < length p.statics
Stands p result (Parameter k) = k < p.function.params
Stands p result ReturnValue = result ≡ true
Stands p result (Binary op a b) = Stands p result a × Stands p result b

-- the place of a variable or parameter
abbrev pub IsLvalue : Program → Expr → Type 0
IsLvalue p (Literal z) = ⊥
IsLvalue p (Variable k) = k < length p.statics
IsLvalue p (Parameter k) = k < p.function.params
IsLvalue p ReturnValue = ⊥
IsLvalue p (Binary op a b) = ⊥

-- a target is a variable
abbrev pub IsTarget : Program → Expr → Type 0
IsTarget p (Literal z) = ⊥
IsTarget p (Variable k) = k < length p.statics
IsTarget p (Parameter k) = ⊥
IsTarget p ReturnValue = ⊥
IsTarget p (Binary op a b) = ⊥

-- a value is returned by an int function alone
abbrev pub StmtStands : Program → Stmt → Type 0
StmtStands p (Assign site place value) = IsLvalue p place × Stands p false value
StmtStands p (Return value) = (p.function.gives_int ≡ true) × Stands p false value

pub record IsSound (p : Program) : Type 0 where
  -- no function has the start's name
  pub name : pointwise nat_eq p.function.name (codes ".start") ≡ false
  pub few : length p.statics ≤ 32766
  pub requires_ : All (Stands p false) p.function.contract.requires_
  pub ensures_ : All (Stands p p.function.gives_int) p.function.contract.ensures_
  pub assigns : All (IsTarget p) p.function.contract.assigns
  pub body : All (StmtStands p) p.function.body
