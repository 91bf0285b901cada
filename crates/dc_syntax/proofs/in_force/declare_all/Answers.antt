use Rattle.std.proofs.Common.{arith}
use Rattle.dc_syntax.proofs.InForce.{declaring_through}
use Rattle.dc_syntax.proofs.in_force.declare_all.Goals as goal

pub returns : goal.returns
returns c =
    declaring_through c.args.is_type c.args.declarators.now c.loop-declarator.declarator-index _ _ (omega arith) c.loop-declarator.invariant
