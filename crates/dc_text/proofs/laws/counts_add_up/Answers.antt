use Rattle.dc_text.proofs.Raised.{raised-none, raised-sum}
use Rattle.dc_text.proofs.laws.counts_add_up.Goals as goal

pub returns-clause-none : goal.returns-clause-none
returns-clause-none c = raised-none

pub returns-clause-sum : goal.returns-clause-sum
returns-clause-sum c = raised-sum
