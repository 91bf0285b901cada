use Rattle.dc_syntax.proofs.CompleteExpressions.{one_expression}
use Rattle.dc_syntax.proofs.laws.one_expression.Goals as goal

pub returns : goal.returns
returns c = one_expression
