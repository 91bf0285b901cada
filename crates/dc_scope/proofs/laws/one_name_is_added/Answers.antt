use Rattle.dc_scope.proofs.Scoping.{found-with_name, found-other}
use Rattle.dc_scope.proofs.laws.one_name_is_added.Goals as goal

pub returns-clause-itself : goal.returns-clause-itself
returns-clause-itself c = found-with_name

pub returns-clause-others : goal.returns-clause-others
returns-clause-others c = found-other
