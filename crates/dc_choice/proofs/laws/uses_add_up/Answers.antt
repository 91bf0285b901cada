use Rattle.dc_choice.proofs.Choosing.{used_none, used_number, used_dry, dry_ended, used_sum}
use Rattle.dc_choice.proofs.laws.uses_add_up.Goals as goal

pub returns-clause-none : goal.returns-clause-none
returns-clause-none c = used_none

pub returns-clause-number : goal.returns-clause-number
returns-clause-number c = used_number

pub returns-clause-dry : goal.returns-clause-dry
returns-clause-dry c = used_dry

pub returns-clause-ended : goal.returns-clause-ended
returns-clause-ended c = dry_ended

pub returns-clause-sum : goal.returns-clause-sum
returns-clause-sum c = used_sum
