use Rattle.dc_num.proofs.Machine.{moved-read, moved-small}
use Rattle.dc_num.proofs.arithmetic.moved.Goals as goal

pub returns : goal.returns
returns c = moved-read _ (moved-small c.args.a c.args.count c.ranges.a.fits c.requires)
