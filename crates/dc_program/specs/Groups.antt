-- Which forms of expressions and statements are of one kind.
use Rattle.std.specs.Prelude.{Bool, true, false}
use Rattle.dc_program.specs.declared.expression.Expr.{Expr}
use Rattle.dc_program.specs.declared.expression.Form.{Form}
use Rattle.dc_program.specs.declared.expression.Form.TheOpen.{Form-F}
use Rattle.dc_program.specs.declared.statement.Stmt.{Stmt}
use Rattle.dc_program.specs.declared.statement.StmtForm.{StmtForm}
use Rattle.dc_program.specs.declared.statement.StmtForm.TheOpen.{StmtForm-F}

-- has no expression in it
abbrev pub is_leaf : Form-F Form Expr → Bool
is_leaf (Form-F.Literal v) = true
is_leaf (Form-F.Function v) = true
is_leaf (Form-F.Static v) = true
is_leaf (Form-F.Local v) = true
is_leaf (Form-F.Argument v) = true
is_leaf (Form-F.Kept v) = true
is_leaf (Form-F.Quantified v) = true
is_leaf Form-F.ReturnValue = true
is_leaf (Form-F.SizeofType t) = true
is_leaf _ = false

-- a call
abbrev pub is_call : Form-F Form Expr → Bool
is_call (Form-F.Call a es l) = true
is_call (Form-F.Malloc a l) = true
is_call (Form-F.Calloc a b l) = true
is_call (Form-F.Free a l) = true
is_call (Form-F.Memset a b c l) = true
is_call (Form-F.Memcpy a b c l) = true
is_call (Form-F.Memmove a b c l) = true
is_call (Form-F.Assert a l) = true
is_call (Form-F.Assume a l) = true
is_call _ = false

-- has one operand
abbrev pub is_unary : Form-F Form Expr → Bool
is_unary (Form-F.Member a v) = true
is_unary (Form-F.Through a v) = true
is_unary (Form-F.After o a l) = true
is_unary (Form-F.Before o a l) = true
is_unary (Form-F.AddressOf a) = true
is_unary (Form-F.Deref a) = true
is_unary (Form-F.Unary o a) = true
is_unary (Form-F.SizeofExpression a) = true
is_unary (Form-F.Cast a) = true
is_unary _ = false

-- has several operands
abbrev pub is_compound : Form-F Form Expr → Bool
is_compound (Form-F.Index a b) = true
is_compound (Form-F.Binary o a b) = true
is_compound (Form-F.Logical o a b) = true
is_compound (Form-F.Conditional a b c) = true
is_compound (Form-F.Assign a b l) = true
is_compound (Form-F.AssignBy o a b l) = true
is_compound (Form-F.Quantify o k a b c) = true
is_compound _ = false

-- stands in clauses alone
abbrev pub is_predicate : Form-F Form Expr → Bool
is_predicate (Form-F.IsFresh a b) = true
is_predicate (Form-F.IsFreeable a) = true
is_predicate (Form-F.WasFreed a) = true
is_predicate (Form-F.PointerEquals a b) = true
is_predicate (Form-F.PointerInRange a b c) = true
is_predicate (Form-F.IsAccessible o a b) = true
is_predicate (Form-F.ObeysContract a v) = true
is_predicate (Form-F.Old a) = true
is_predicate (Form-F.LoopEntry a) = true
is_predicate _ = false

-- has no statement in it
abbrev pub is_simple : StmtForm-F StmtForm Stmt → Bool
is_simple (StmtForm-F.Declaration vs) = true
is_simple StmtForm-F.Empty = true
is_simple (StmtForm-F.Expression e) = true
is_simple StmtForm-F.Return = true
is_simple (StmtForm-F.ReturnWith e) = true
is_simple StmtForm-F.Break = true
is_simple StmtForm-F.Continue = true
is_simple _ = false

-- chooses, or is a label
abbrev pub is_branch : StmtForm-F StmtForm Stmt → Bool
is_branch (StmtForm-F.If e s) = true
is_branch (StmtForm-F.IfElse e s t) = true
is_branch (StmtForm-F.Switch e ss) = true
is_branch (StmtForm-F.Case c s) = true
is_branch (StmtForm-F.Default s) = true
is_branch _ = false

-- a loop
abbrev pub is_loop : StmtForm-F StmtForm Stmt → Bool
is_loop (StmtForm-F.While l e s) = true
is_loop (StmtForm-F.DoWhile l s e) = true
is_loop (StmtForm-F.For l d e a s) = true
is_loop _ = false
