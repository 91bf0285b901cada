-- The values of the code as the plain data that the definitions speak of: of the typed program, the program of the first
-- form that it says.
use Rattle.std.specs.Prelude.{List, [], ◌∷◌, map, length, false, Option, Some, None}
use Rattle.std.specs.Option.{option_map}
use Rattle.dc_core.specs.First.{first_expr, first_form, first_act, first_stmt, first_body, first_range, gives_int}
use Rattle.dc_core.specs.Program as plain
use Rattle.dc_core.specs.Term as plain_term
use Rattle.dc_core.specs.declared.term.Term.{Term}
use Rattle.dc_core.specs.declared.term.Term.TheFolds.{fold-Term}
use Rattle.dc_core.specs.declared.term.Term.TheOpen.{Term-F}
use Rattle.dc_layout.specs.Types.{type_view}
use Rattle.dc_layout.specs.declared.ctype.CType.{CType}
use Rattle.dc_program.specs.View as whole
use Rattle.dc_program.specs.declared.contract.Clause.{Clause}
use Rattle.dc_program.specs.declared.contract.Contract.{Contract}
use Rattle.dc_program.specs.declared.contract.Target.{Target}
use Rattle.dc_program.specs.declared.expression.Expr.{Expr}
use Rattle.dc_program.specs.declared.expression.Form.{Form}
use Rattle.dc_program.specs.declared.program.Function.{Function}
use Rattle.dc_program.specs.declared.program.StaticVariable.{StaticVariable}
use Rattle.dc_program.specs.declared.statement.Stmt.{Stmt}

abbrev pub form_view : Form → plain.Expr
form_view f = first_form (whole.form_view f)

abbrev pub expr_view : Expr → plain.Expr
expr_view e = first_expr (whole.expr_view e)

-- an expression that is a statement
abbrev pub act_view : Expr → plain.Stmt
act_view e = first_act (whole.expr_view e)

abbrev pub stmt_view : Stmt → plain.Stmt
stmt_view s = first_stmt (whole.stmt_view s)

abbrev pub clause_view : Clause → plain.Expr
clause_view c = expr_view c.condition

abbrev pub target_view : Target → plain.Expr
target_view t = first_range (whole.range_view t.range)

abbrev pub contract_view : Contract → plain.Contract
contract_view c =
    record { requires_ = map clause_view c.required; ensures_ = map clause_view c.ensured; assigns = map target_view c.assigned }

abbrev pub no_clauses : plain.Contract
no_clauses = record { requires_ = []; ensures_ = []; assigns = [] }

abbrev pub clauses_view : Option Contract → plain.Contract
clauses_view None = no_clauses
clauses_view (Some c) = contract_view c

abbrev pub body_view : Option Stmt → List plain.Stmt
body_view body = first_body (option_map whole.stmt_view body)

abbrev pub function_view : Function → plain.Function
function_view f =
    record {
      name = f.name;
      gives_int = gives_int (type_view f.result);
      params = length f.params;
      contract = clauses_view f.contract;
      body = body_view f.body;
    }

abbrev pub no_function : plain.Function
no_function = record { name = []; gives_int = false; params = 0; contract = no_clauses; body = [] }

abbrev pub function_in : List Function → plain.Function
function_in [] = no_function
function_in (f ∷ functions) = function_view f

-- a program by its functions, of which it has one, and its variables of file scope
abbrev pub program_view : List Function × (List StaticVariable × List (Option (List CType))) → plain.Program
program_view p = record { statics = map (λ v. v.name) p.1.0; function = function_in p.0 }

abbrev pub term_step : Term-F plain_term.Term → plain_term.Term
term_step (Term-F.Constant kind z) = plain_term.Constant kind z
term_step (Term-F.Register r) = plain_term.Register r
term_step (Term-F.Variable d) = plain_term.Variable d
term_step (Term-F.Object n) = plain_term.Object n
term_step (Term-F.Load kind a) = plain_term.Load kind a
term_step (Term-F.Convert to from e) = plain_term.Convert to from e
term_step (Term-F.Unary op kind e) = plain_term.Unary op kind e
term_step (Term-F.Binary op kind a b) = plain_term.Binary op kind a b
term_step (Term-F.Lazy op a b) = plain_term.Lazy op a b
term_step (Term-F.Choice a b c) = plain_term.Choice a b c
term_step (Term-F.Moved size p n) = plain_term.Moved size p n
term_step (Term-F.Distance size p q) = plain_term.Distance size p q
term_step (Term-F.Asked of p) = plain_term.Asked of p
term_step (Term-F.Tested test p n) = plain_term.Tested test p n
term_step (Term-F.Between a b c) = plain_term.Between a b c
term_step (Term-F.Quantified q d kind a b c) = plain_term.Quantified q d kind a b c

abbrev pub term_view : Term → plain_term.Term
term_view = fold-Term plain_term.Term term_step
