use Rattle.dc_outside.proofs.Written.{adds_nothing}
use Rattle.dc_outside.proofs.laws.adds_nothing.Goals as goal

pub returns : goal.returns
returns c = adds_nothing
