use Rattle.dc_outside.proofs.Written.{prefix_behind}
use Rattle.dc_outside.proofs.laws.prefix_behind.Goals as goal

pub returns : goal.returns
returns c = prefix_behind
