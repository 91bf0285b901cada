use Rattle.dc_scope.proofs.Scoping.{left-behind}
use Rattle.dc_scope.proofs.laws.scopes_end.Goals as goal

pub returns : goal.returns
returns c = left-behind
