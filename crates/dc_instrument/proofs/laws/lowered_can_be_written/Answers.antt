use Rattle.dc_instrument.proofs.Written.Whole.{lowered_formed, lowered_shaped}
use Rattle.dc_instrument.proofs.laws.lowered_can_be_written.Goals as goal

pub returns-clause-formed : goal.returns-clause-formed
returns-clause-formed c = lowered_formed

pub returns-clause-shaped : goal.returns-clause-shaped
returns-clause-shaped c = lowered_shaped
