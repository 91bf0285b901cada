use Rattle.dc_choice.proofs.Hearing.{each_heard-none, each_heard-event, each_heard-append}
use Rattle.dc_choice.proofs.laws.hearings_add_up.Goals as goal

pub returns-clause-none : goal.returns-clause-none
returns-clause-none c = each_heard-none

pub returns-clause-event : goal.returns-clause-event
returns-clause-event c = each_heard-event

pub returns-clause-sum : goal.returns-clause-sum
returns-clause-sum c = each_heard-append
