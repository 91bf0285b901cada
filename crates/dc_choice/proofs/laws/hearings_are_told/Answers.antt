use Rattle.dc_choice.proofs.Hearing.{heard-told, each_heard-told}
use Rattle.dc_choice.proofs.laws.hearings_are_told.Goals as goal

pub returns-clause-one : goal.returns-clause-one
returns-clause-one c = heard-told

pub returns-clause-each : goal.returns-clause-each
returns-clause-each c = each_heard-told
