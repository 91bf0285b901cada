use Rattle.dc_text.proofs.Raised.{all_counted-append, all_counted-raised}
use Rattle.dc_text.proofs.laws.events_add_up.Goals as goal

pub returns-clause-sum : goal.returns-clause-sum
returns-clause-sum c = all_counted-append

pub returns-clause-anew : goal.returns-clause-anew
returns-clause-anew c = all_counted-raised
