-- The values of the code as the plain data that the definitions speak of.
use Rattle.std.specs.Prelude.{List, [], ◌∷◌, map, Option}
use Rattle.std.specs.Option.{option_map}
use Rattle.dc_layout.specs.Types.{type_view, structs_view}
use Rattle.dc_layout.specs.declared.ctype.CType.{CType}
use Rattle.dc_program.specs.declared.expression.Expr.{Expr}
use Rattle.dc_program.specs.declared.expression.Form.{Form}
use Rattle.dc_program.specs.declared.expression.Form.TheFolds.{fold-Form, fold-Expr}
use Rattle.dc_program.specs.declared.expression.Form.TheOpen.{Form-F, Expr-F}
use Rattle.dc_program.specs.declared.contract.Clause.{Clause}
use Rattle.dc_program.specs.declared.contract.Range.{Range}
use Rattle.dc_program.specs.declared.contract.Range.TheVariants as range
use Rattle.dc_program.specs.declared.contract.Target.{Target}
use Rattle.dc_program.specs.declared.contract.Contract.{Contract}
use Rattle.dc_program.specs.declared.contract.LoopContract.{LoopContract}
use Rattle.dc_program.specs.declared.statement.Loop.{Loop}
use Rattle.dc_program.specs.declared.statement.Init.{Init}
use Rattle.dc_program.specs.declared.statement.Init.TheFolds.{fold-Init}
use Rattle.dc_program.specs.declared.statement.Init.TheOpen.{Init-F}
use Rattle.dc_program.specs.declared.statement.Variable.{Variable}
use Rattle.dc_program.specs.declared.statement.Stmt.{Stmt}
use Rattle.dc_program.specs.declared.statement.StmtForm.TheFolds.{fold-Stmt}
use Rattle.dc_program.specs.declared.statement.StmtForm.TheOpen.{StmtForm-F, Stmt-F}
use Rattle.dc_program.specs.declared.program.Function.{Function}
use Rattle.dc_program.specs.declared.program.StaticVariable.{StaticVariable}
use Rattle.dc_program.specs.Expressions as plain
use Rattle.dc_program.specs.Statements as plain_statement
use Rattle.dc_program.specs.Programs as plain_program

abbrev pub exprs : List plain.Expr → plain.Exprs
exprs [] = plain.NoExprs
exprs (e ∷ es) = plain.More e (exprs es)

abbrev pub form_step : Form-F plain.Form plain.Expr → plain.Form
form_step (Form-F.Literal n) = plain.Literal n
form_step (Form-F.Function n) = plain.Function n
form_step (Form-F.Static n) = plain.Static n
form_step (Form-F.Local n) = plain.Local n
form_step (Form-F.Argument n) = plain.Argument n
form_step (Form-F.Kept n) = plain.Kept n
form_step (Form-F.Quantified n) = plain.Quantified n
form_step Form-F.ReturnValue = plain.ReturnValue
form_step (Form-F.Index a b) = plain.Index a b
form_step (Form-F.Call a es l) = plain.Call a (exprs es) l
form_step (Form-F.Malloc a l) = plain.Malloc a l
form_step (Form-F.Calloc a b l) = plain.Calloc a b l
form_step (Form-F.Free a l) = plain.Free a l
form_step (Form-F.Memset a b c l) = plain.Memset a b c l
form_step (Form-F.Memcpy a b c l) = plain.Memcpy a b c l
form_step (Form-F.Memmove a b c l) = plain.Memmove a b c l
form_step (Form-F.Assert a l) = plain.Assert a l
form_step (Form-F.Assume a l) = plain.Assume a l
form_step (Form-F.Member a n) = plain.Member a n
form_step (Form-F.Through a n) = plain.Through a n
form_step (Form-F.After o a l) = plain.After o a l
form_step (Form-F.Before o a l) = plain.Before o a l
form_step (Form-F.AddressOf a) = plain.AddressOf a
form_step (Form-F.Deref a) = plain.Deref a
form_step (Form-F.Unary o a) = plain.Unary o a
form_step (Form-F.SizeofExpression a) = plain.SizeofExpression a
form_step (Form-F.SizeofType t) = plain.SizeofType (type_view t)
form_step (Form-F.Cast a) = plain.Cast a
form_step (Form-F.Binary o a b) = plain.Binary o a b
form_step (Form-F.Logical o a b) = plain.Logical o a b
form_step (Form-F.Conditional a b c) = plain.Conditional a b c
form_step (Form-F.Assign a b l) = plain.Assign a b l
form_step (Form-F.AssignBy o a b l) = plain.AssignBy o a b l
form_step (Form-F.Quantify o k a b c) = plain.Quantify o k a b c
form_step (Form-F.IsFresh a b) = plain.IsFresh a b
form_step (Form-F.IsFreeable a) = plain.IsFreeable a
form_step (Form-F.WasFreed a) = plain.WasFreed a
form_step (Form-F.PointerEquals a b) = plain.PointerEquals a b
form_step (Form-F.PointerInRange a b c) = plain.PointerInRange a b c
form_step (Form-F.IsAccessible o a b) = plain.IsAccessible o a b
form_step (Form-F.ObeysContract a n) = plain.ObeysContract a n
form_step (Form-F.Old a) = plain.Old a
form_step (Form-F.LoopEntry a) = plain.LoopEntry a

abbrev pub expr_step : Expr-F plain.Form plain.Expr → plain.Expr
expr_step e = plain.Typed (type_view e.ty) e.form

abbrev pub expr_view : Expr → plain.Expr
expr_view = fold-Expr plain.Form plain.Expr form_step expr_step

abbrev pub form_view : Form → plain.Form
form_view = fold-Form plain.Form plain.Expr form_step expr_step

abbrev pub clause_view : Clause → plain_statement.Clause
clause_view c = record { condition = expr_view c.condition; line = c.line }

abbrev pub range_view : Range → plain_statement.Range
range_view (range.Lvalue e) = plain_statement.Lvalue (expr_view e)
range_view (range.ObjectWhole e) = plain_statement.ObjectWhole (expr_view e)
range_view (range.ObjectFrom e) = plain_statement.ObjectFrom (expr_view e)
range_view (range.ObjectUpto e n) = plain_statement.ObjectUpto (expr_view e) (expr_view n)
range_view (range.Object e) = plain_statement.Object (expr_view e)

abbrev pub target_view : Target → plain_statement.Target
target_view t = record { condition = option_map expr_view t.condition; range = range_view t.range; line = t.line }

abbrev pub contract_view : Contract → plain_statement.Contract
contract_view c =
    record {
      required = map clause_view c.required;
      ensured = map clause_view c.ensured;
      assigned = map target_view c.assigned;
      freed = map target_view c.freed;
    }

abbrev pub loop_contract_view : LoopContract → plain_statement.LoopContract
loop_contract_view c =
    record {
      assigned = map target_view c.assigned;
      invariants = map clause_view c.invariants;
      measures = map expr_view c.measures;
    }

abbrev pub loop_view : Loop → plain_statement.Loop
loop_view l = record { location = l.location; contract = option_map loop_contract_view l.contract }

abbrev pub inits : List plain_statement.Init → plain_statement.Inits
inits [] = plain_statement.NoInits
inits (i ∷ is) = plain_statement.MoreInits i (inits is)

abbrev pub init_step : Init-F plain_statement.Init → plain_statement.Init
init_step (Init-F.Value e) = plain_statement.Value (expr_view e)
init_step (Init-F.Braces is) = plain_statement.Braces (inits is)

abbrev pub init_view : Init → plain_statement.Init
init_view = fold-Init plain_statement.Init init_step

abbrev pub variable_view : Variable → plain_statement.Variable
variable_view v =
    record { number = v.number; type = type_view v.ty; init = option_map init_view v.init; site = v.site }

abbrev pub stmts : List plain_statement.Stmt → plain_statement.Stmts
stmts [] = plain_statement.NoStmts
stmts (s ∷ ss) = plain_statement.MoreStmts s (stmts ss)

abbrev pub stmt_form_step : StmtForm-F plain_statement.Stmt plain_statement.Stmt → plain_statement.Stmt
stmt_form_step (StmtForm-F.Declaration vs) = plain_statement.Declaration (map variable_view vs)
stmt_form_step (StmtForm-F.Block ss) = plain_statement.Block (stmts ss)
stmt_form_step StmtForm-F.Empty = plain_statement.Empty
stmt_form_step (StmtForm-F.Expression e) = plain_statement.Expression (expr_view e)
stmt_form_step StmtForm-F.Return = plain_statement.Return
stmt_form_step (StmtForm-F.ReturnWith e) = plain_statement.ReturnWith (expr_view e)
stmt_form_step StmtForm-F.Break = plain_statement.Break
stmt_form_step StmtForm-F.Continue = plain_statement.Continue
stmt_form_step (StmtForm-F.If e s) = plain_statement.If (expr_view e) s
stmt_form_step (StmtForm-F.IfElse e s t) = plain_statement.IfElse (expr_view e) s t
stmt_form_step (StmtForm-F.While l e s) = plain_statement.While (loop_view l) (expr_view e) s
stmt_form_step (StmtForm-F.DoWhile l s e) = plain_statement.DoWhile (loop_view l) s (expr_view e)
stmt_form_step (StmtForm-F.For l d e a s) = plain_statement.For (loop_view l) d (option_map expr_view e) (option_map expr_view a) s
stmt_form_step (StmtForm-F.Switch e ss) = plain_statement.Switch (expr_view e) (stmts ss)
stmt_form_step (StmtForm-F.Case c s) = plain_statement.Case c s
stmt_form_step (StmtForm-F.Default s) = plain_statement.Default s

abbrev pub stmt_step : Stmt-F plain_statement.Stmt plain_statement.Stmt → plain_statement.Stmt
stmt_step s = s.form

abbrev pub stmt_view : Stmt → plain_statement.Stmt
stmt_view = fold-Stmt plain_statement.Stmt plain_statement.Stmt stmt_form_step stmt_step

abbrev pub function_view : Function → plain_program.Function
function_view f =
    record {
      name = f.name;
      result = type_view f.result;
      params = map type_view f.params;
      contract = option_map contract_view f.contract;
      body = option_map stmt_view f.body;
    }

abbrev pub static_view : StaticVariable → plain_program.StaticVariable
static_view v = record { name = v.name; type = type_view v.ty }

-- the program that functions, variables and structs make
abbrev pub program : List Function → List StaticVariable → List (Option (List CType)) → plain_program.Program
program functions statics structs =
    record {
      functions = map function_view functions;
      statics = map static_view statics;
      structs = structs_view structs;
    }
