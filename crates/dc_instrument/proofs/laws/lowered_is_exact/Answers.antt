use Rattle.dc_instrument.proofs.Exact.Whole.{lowered_exact}
use Rattle.dc_instrument.proofs.laws.lowered_is_exact.Goals as goal

pub returns : goal.returns
returns c = lowered_exact
