use Rattle.std.proofs.Common.{true, arith}
use Rattle.dc_syntax.proofs.Scopes.{declared_as}
use Rattle.dc_syntax.proofs.InForce.{declaring_all-more}
use Rattle.dc_syntax.proofs.in_force.first_typedefs.Goals as goal

pub loop-word-preserved : goal.loop-word-preserved
loop-word-preserved c =
    declaring_all-more (λ w. declared_as w.now true) _ c.loop-word.word-index _ _ _ _ (omega arith) c.in_ok-declare.ensures.ok c.loop-word.invariant
