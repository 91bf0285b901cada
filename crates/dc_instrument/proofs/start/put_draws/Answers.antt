use Rattle.dc_instrument.proofs.Emitting.{draws_turn}
use Rattle.dc_instrument.proofs.start.put_draws.Goals as goal

pub loop-i-preserved : goal.loop-i-preserved
loop-i-preserved c = draws_turn _ _ _ c.loop-i.i c.args.n c.loop-i-test.true c.loop-i.invariant c.in_ok-put.ensures
