-- The parts of the typed program that are read: each says the part of the first form that is seen of it.
use Rattle.std.specs.Prelude.{◌≡◌, ◌∷◌, Bool, false, List, [], map, All}
use Rattle.dc_core.specs.View.{expr_view, form_view, stmt_view, clause_view, target_view, function_view}
use Rattle.dc_core.specs.Program as plain
use Rattle.dc_core.specs.Whole.{Where, InBody, InClause, whole_form, whole_expr, SaysStmt, SaysClause, SaysTarget, SaysFunction, Says}
use Rattle.dc_layout.specs.Types.{type_view}
use Rattle.dc_program.specs.Types.{int}
use Rattle.dc_program.specs.View as whole
use Rattle.dc_program.specs.declared.contract.Clause.{Clause}
use Rattle.dc_program.specs.declared.contract.Contract.{Contract}
use Rattle.dc_program.specs.declared.contract.Target.{Target}
use Rattle.dc_program.specs.declared.expression.Expr.{Expr}
use Rattle.dc_program.specs.declared.expression.Form.{Form}
use Rattle.dc_program.specs.declared.program.StaticVariable.{StaticVariable}
use Rattle.dc_program.specs.declared.statement.Stmt.{Stmt}
use Rattle.dc_form.specs.declared.source.Parts.{Parts}
use Rattle.dc_form.specs.declared.text.Text.{Text}
use Rattle.dc_form.specs.declared.text.Text.TheVariants as text

abbrev pub where_of : Text → Where
where_of text.Body = InBody
where_of (text.Clause valued) = InClause

-- the result may stand there
abbrev pub is_valued : Text → Bool
is_valued text.Body = false
is_valued (text.Clause valued) = valued

abbrev pub IsWholeForm : Where → Form → Type 0
IsWholeForm at f = whole.form_view f ≡ whole_form at (form_view f)

abbrev pub IsWhole : Where → Expr → Type 0
IsWhole at e = whole.expr_view e ≡ whole_expr at (expr_view e)

abbrev pub IsWholeStmt : Stmt → Type 0
IsWholeStmt s = SaysStmt (stmt_view s) (whole.stmt_view s)

abbrev pub IsWholeClause : Clause → Type 0
IsWholeClause c = SaysClause (clause_view c) (whole.clause_view c)

abbrev pub IsWholeTarget : Target → Type 0
IsWholeTarget t = SaysTarget (target_view t) (whole.target_view t)

pub record IsWholeContract (c : Contract) : Type 0 where
  pub required : All IsWholeClause c.required
  pub ensured : All IsWholeClause c.ensured
  pub assigned : All IsWholeTarget c.assigned
  pub freed : c.freed ≡ []

abbrev pub IsInt : StaticVariable → Type 0
IsInt v = type_view v.ty ≡ int

abbrev pub parts_view : Parts → plain.Program
parts_view p = record { statics = map (λ v. v.name) p.statics; function = function_view p.function }

abbrev pub IsWholeProgram : Parts → Type 0
IsWholeProgram p = Says (parts_view p) (whole.program (p.function ∷ []) p.statics [])
