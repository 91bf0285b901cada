use Rattle.dc_syntax.proofs.CompleteUnits.{one_unit}
use Rattle.dc_syntax.proofs.laws.one_unit.Goals as goal

pub returns : goal.returns
returns c = one_unit
