use Rattle.dc_num.proofs.Machine.{lowered-read}
use Rattle.dc_num.proofs.arithmetic.lowered.Goals as goal

pub returns : goal.returns
returns c = lowered-read c.args.a _ c.ranges.a
