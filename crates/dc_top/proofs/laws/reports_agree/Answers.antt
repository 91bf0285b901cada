use Rattle.dc_top.proofs.Agreed.{agreed}
use Rattle.dc_top.proofs.laws.reports_agree.Goals as goal

pub returns : goal.returns
returns c = agreed
