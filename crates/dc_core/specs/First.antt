-- The part of the first form that a part of the typed program says. One of another form has no value: it is taken for
-- 0 / 0, and a statement of another form for a return of that.
use Rattle.std.specs.Prelude.{pos, Bool, true, false, List, [], ◌∷◌, Option, Some}
use Rattle.dc_num.specs.declared.operators.BinOp.TheVariants.{Div}
use Rattle.dc_core.specs.Program as first
use Rattle.dc_layout.specs.Types.{PlainType, Void}
use Rattle.dc_program.specs.Expressions.{Expr, Typed, Form, Literal, Static, Local, Argument, ReturnValue, Binary, Assign}
use Rattle.dc_program.specs.Statements.{Range, Lvalue, Stmt, Block, Expression, ReturnWith, Stmts, NoStmts, MoreStmts}

abbrev pub no_value : first.Expr
no_value = first.Binary Div (first.Literal (pos 0)) (first.Literal (pos 0))

abbrev mutual
  pub first_expr : Expr → first.Expr
  first_expr (Typed t f) = first_form f

  pub first_form : Form → first.Expr
  first_form (Literal z) = first.Literal z
  first_form (Static k) = first.Variable k
  first_form (Local k) = first.Parameter k
  first_form (Argument k) = first.Parameter k
  first_form ReturnValue = first.ReturnValue
  first_form (Binary op a b) = first.Binary op (first_expr a) (first_expr b)
  first_form f = no_value

abbrev pub no_act : first.Stmt
no_act = first.Return no_value

-- an expression whose value isn't used
abbrev pub first_act : Expr → first.Stmt
first_act (Typed t (Assign a b l)) = first.Assign l.number (first_expr a) (first_expr b)
first_act e = no_act

abbrev pub first_stmt : Stmt → first.Stmt
first_stmt (Expression e) = first_act e
first_stmt (ReturnWith e) = first.Return (first_expr e)
first_stmt s = no_act

abbrev pub first_stmts : Stmts → List first.Stmt
first_stmts NoStmts = []
first_stmts (MoreStmts s ss) = first_stmt s ∷ first_stmts ss

abbrev pub first_body : Option Stmt → List first.Stmt
first_body (Some (Block ss)) = first_stmts ss
first_body s = []

abbrev pub first_range : Range → first.Expr
first_range (Lvalue e) = first_expr e
first_range range = no_value

abbrev pub gives_int : PlainType → Bool
gives_int Void = false
gives_int t = true
