use Rattle.dc_outside.proofs.Written.{adds_twice}
use Rattle.dc_outside.proofs.laws.adds_twice.Goals as goal

pub returns : goal.returns
returns c = adds_twice
