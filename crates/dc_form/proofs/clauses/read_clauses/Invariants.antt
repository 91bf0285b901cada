use Rattle.std.proofs.Common.{suc, length}
use Rattle.dc_core.specs.View.{contract_view}
use Rattle.dc_form.specs.Read.Clauses.{read_clauses}
use Rattle.dc_form.specs.Read.Whole.{IsWholeContract}
use Rattle.dc_form.proofs.Turns.{Left}
use Rattle.dc_form.proofs.clauses.read_clauses.Given as goal

abbrev pub invariant-loop-alloc : goal.invariant-loop-alloc
invariant-loop-alloc l =
    (Left (read_clauses (suc (length l.fn.tokens)) l.names l.statics l.gives_int (contract_view l.fn.contract) l.fn.tokens) l.tokens
    (λ most. read_clauses most l.names l.statics l.gives_int (contract_view l.contract) l.tokens))
    × (IsWholeContract l.fn.contract → IsWholeContract l.contract)

abbrev pub decreases-loop-alloc : goal.decreases-loop-alloc
decreases-loop-alloc l = length l.tokens
