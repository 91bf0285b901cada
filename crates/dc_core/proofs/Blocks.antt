-- The statements of a block.
use Rattle.std.proofs.Common.{◌≡◌, List, [], ◌∷◌, map, Some, refl, sym, ap, ◌∙◌}
use Rattle.dc_core.specs.First.{first_stmts, first_body}
use Rattle.dc_core.specs.View.{stmt_view, body_view}
use Rattle.dc_program.specs.Statements as s
use Rattle.dc_program.specs.View as whole
use Rattle.dc_program.specs.View.{stmts}
use Rattle.dc_program.specs.declared.statement.Stmt.{Stmt}
use Rattle.dc_program.specs.declared.statement.StmtForm.TheVariants as form
use Rattle.dc_program.specs.declared.statement.StmtForm.TheViews.{rolls-Block}
use Rattle.dc_program.specs.declared.statement.StmtForm.TheFolds.{fold-StmtForm, fold-roll-StmtForm, fold-roll-Stmt}
use Rattle.dc_program.specs.declared.statement.StmtForm.TheOpen.{StmtForm-F}

-- one behind the other
statements_seen : (ss : List Stmt) → first_stmts (stmts (map whole.stmt_view ss)) ≡ map stmt_view ss
statements_seen [] = refl
statements_seen (s ∷ ss) = ap (λ l. stmt_view s ∷ l) (statements_seen ss)

pub block_seen : (ss : List Stmt) → whole.stmt_view (record { form = form.Block ss }) ≡ s.Block (stmts (map whole.stmt_view ss))
block_seen ss =
    fold-roll-Stmt s.Stmt s.Stmt whole.stmt_form_step whole.stmt_step (record { form = form.Block ss })
    ∙ ap (fold-StmtForm s.Stmt s.Stmt whole.stmt_form_step whole.stmt_step) (sym (rolls-Block ss))
    ∙ fold-roll-StmtForm s.Stmt s.Stmt whole.stmt_form_step whole.stmt_step (StmtForm-F.Block ss)

pub block_statements : (block : Stmt) (ss seen : List Stmt) → block.form ≡ form.Block ss → seen ≡ ss → map stmt_view seen ≡ body_view (Some block)
block_statements block ss seen e f = ap (map stmt_view) f ∙ sym (ap (λ f. body_view (Some (record { form = f }))) e ∙ ap (λ x. first_body (Some x)) (block_seen ss) ∙ statements_seen ss)
