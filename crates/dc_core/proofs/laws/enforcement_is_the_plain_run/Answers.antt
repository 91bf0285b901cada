use Rattle.dc_core.proofs.Enforced.{enforcement_is_plain}
use Rattle.dc_core.proofs.laws.enforcement_is_the_plain_run.Goals as goal

pub returns : goal.returns
returns c = enforcement_is_plain
