use Rattle.std.proofs.Common.{arith}
use Rattle.dc_read_expr.proofs.Void.{some_more}
use Rattle.dc_read_expr.proofs.declarators.is_no_more.Goals as goal

pub returns-in_default : goal.returns-in_default
returns-in_default c = some_more c.args.more.now (omega (arith, c.in_default.len_at_least))
