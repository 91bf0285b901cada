use Rattle.dc_instrument.proofs.Emitting.{ints_turn}
use Rattle.dc_instrument.proofs.program.int_kinds.Goals as goal

pub loop-index-preserved : goal.loop-index-preserved
loop-index-preserved c = ints_turn _ _ _ c.loop-index._index c.args.n c.loop-index-test.true c.loop-index.invariant c.in_ok-push.ensures.ok
