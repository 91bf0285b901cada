-- An int function that falls off its end: `int f(int x) { x = x + 1; }`.
use Rattle.std.specs.Prelude.{[], ◌∷◌, true, pos, codes, Some, None}
use Rattle.dc_core.specs.Program.{Expr, Literal, Parameter, Binary, Stmt, Assign, Function, Program}
use Rattle.dc_core.specs.Whole.{InBody, whole_expr, location}
use Rattle.dc_num.specs.declared.operators.BinOp.TheVariants.{Add}
use Rattle.dc_program.specs.Expressions as expressions
use Rattle.dc_program.specs.Programs as programs
use Rattle.dc_program.specs.Statements as statements
use Rattle.dc_program.specs.Types.{int}

abbrev pub one_more : Expr
one_more = Binary Add (Parameter 0) (Literal (pos 1))

abbrev pub increment : Stmt
increment = Assign 1 (Parameter 0) one_more

abbrev pub unfinished : Function
unfinished =
    record {
      name = codes "f";
      gives_int = true;
      params = 1;
      contract = record { requires_ = []; ensures_ = []; assigns = [] };
      body = increment ∷ [];
    }

abbrev pub unfinished_program : Program
unfinished_program = record { statics = []; function = unfinished }

-- the same as the typed program says it
abbrev pub whole_increment : statements.Stmt
whole_increment = statements.Expression (expressions.Typed int (expressions.Assign (whole_expr InBody (Parameter 0)) (whole_expr InBody one_more) (location 1 1)))

abbrev pub whole_body : statements.Stmt
whole_body = statements.Block (statements.MoreStmts whole_increment statements.NoStmts)

abbrev pub whole_unfinished : programs.Function
whole_unfinished = record { name = codes "f"; result = int; params = int ∷ []; contract = None; body = Some whole_body }
