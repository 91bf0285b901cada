-- A program of the first form, as plain data: what the runs take so far. Variables and parameters are named by their
-- numbers, from 0.
use Rattle.std.specs.Prelude.{ℕ, ℤ, Bool, List}
use Rattle.dc_num.specs.declared.operators.BinOp.{BinOp}

-- an expression of type int
pub data Expr : Type 0 where
  Literal : ℤ → Expr
  Variable : ℕ → Expr
  Parameter : ℕ → Expr
  ReturnValue : Expr
  Binary : BinOp → Expr → Expr → Expr

-- the assignment at a site of the second expression's value to the place of the first; a return
pub data Stmt : Type 0 where
  Assign : ℕ → Expr → Expr → Stmt
  Return : Expr → Stmt

pub record Contract : Type 0 where
  pub requires_ : List Expr
  pub ensures_ : List Expr
  pub assigns : List Expr

pub record Function : Type 0 where
  pub name : List ℕ
  pub gives_int : Bool
  pub params : ℕ
  pub contract : Contract
  pub body : List Stmt

pub record Program : Type 0 where
  pub statics : List (List ℕ)
  pub function : Function
