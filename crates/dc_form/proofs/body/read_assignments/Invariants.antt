use Rattle.std.proofs.Common.{suc, map, length}
use Rattle.std.specs.Prelude.{All}
use Rattle.dc_core.specs.View.{stmt_view}
use Rattle.dc_form.specs.Read.Body.{read_assignments}
use Rattle.dc_form.specs.Read.Whole.{IsWholeStmt}
use Rattle.dc_form.proofs.Turns.{Left}
use Rattle.dc_form.proofs.body.read_assignments.Given as goal

abbrev pub invariant-loop-alloc : goal.invariant-loop-alloc
invariant-loop-alloc l =
    (Left (read_assignments (suc (length l.fn.tokens)) l.names l.statics 1 (map stmt_view l.fn.body) l.fn.tokens) l.tokens
    (λ most. read_assignments most l.names l.statics l.site (map stmt_view l.body) l.tokens))
    × (All IsWholeStmt l.fn.body → All IsWholeStmt l.body)

abbrev pub decreases-loop-alloc : goal.decreases-loop-alloc
decreases-loop-alloc l = length l.tokens
