-- Expressions with their types, as plain data. Names are numbers.
use Rattle.std.specs.Prelude.{ℕ, ℤ, suc}
use Rattle.dc_num.specs.declared.kind.NumKind.{NumKind}
use Rattle.dc_num.specs.declared.operators.BinOp.{BinOp}
use Rattle.dc_layout.specs.Types.{PlainType}
use Rattle.dc_program.specs.declared.location.Location.{Location}
use Rattle.dc_program.specs.declared.operators.Access.{Access}
use Rattle.dc_program.specs.declared.operators.LogicalOp.{LogicalOp}
use Rattle.dc_program.specs.declared.operators.Quantifier.{Quantifier}
use Rattle.dc_program.specs.declared.operators.StepOp.{StepOp}
use Rattle.dc_program.specs.declared.operators.UnaryOp.{UnaryOp}

mutual
  -- a form with its type
  pub data Expr : Type 0 where
    Typed : PlainType → Form → Expr

  -- a variant for each form of the grammar, with its parts in their order
  pub data Form : Type 0 where
    Literal : ℤ → Form
    Function : ℕ → Form
    Static : ℕ → Form
    Local : ℕ → Form
    Argument : ℕ → Form
    Kept : ℕ → Form
    Quantified : ℕ → Form
    ReturnValue : Form
    Index : Expr → Expr → Form
    Call : Expr → Exprs → Location → Form
    Malloc : Expr → Location → Form
    Calloc : Expr → Expr → Location → Form
    Free : Expr → Location → Form
    Memset : Expr → Expr → Expr → Location → Form
    Memcpy : Expr → Expr → Expr → Location → Form
    Memmove : Expr → Expr → Expr → Location → Form
    Assert : Expr → Location → Form
    Assume : Expr → Location → Form
    Member : Expr → ℕ → Form
    Through : Expr → ℕ → Form
    After : StepOp → Expr → Location → Form
    Before : StepOp → Expr → Location → Form
    AddressOf : Expr → Form
    Deref : Expr → Form
    Unary : UnaryOp → Expr → Form
    SizeofExpression : Expr → Form
    SizeofType : PlainType → Form
    Cast : Expr → Form
    Binary : BinOp → Expr → Expr → Form
    Logical : LogicalOp → Expr → Expr → Form
    Conditional : Expr → Expr → Expr → Form
    Assign : Expr → Expr → Location → Form
    AssignBy : BinOp → Expr → Expr → Location → Form
    Quantify : Quantifier → NumKind → Expr → Expr → Expr → Form
    IsFresh : Expr → Expr → Form
    IsFreeable : Expr → Form
    WasFreed : Expr → Form
    PointerEquals : Expr → Expr → Form
    PointerInRange : Expr → Expr → Expr → Form
    IsAccessible : Access → Expr → Expr → Form
    ObeysContract : Expr → ℕ → Form
    Old : Expr → Form
    LoopEntry : Expr → Form

  -- a list of them
  pub data Exprs : Type 0 where
    NoExprs : Exprs
    More : Expr → Exprs → Exprs

abbrev pub type_of : Expr → PlainType
type_of (Typed t f) = t

abbrev pub form_of : Expr → Form
form_of (Typed t f) = f

abbrev pub count_of : Exprs → ℕ
count_of NoExprs = 0
count_of (More e es) = suc (count_of es)
