use Rattle.std.proofs.Common.{arith}
use Rattle.dc_read_expr.proofs.Void.{two_specs}
use Rattle.dc_read_expr.proofs.declarators.is_lone_void.Goals as goal

pub returns-in_default-2 : goal.returns-in_default-2
returns-in_default-2 c = two_specs c.args.specs.now (omega (arith, c.in_default.len_at_least))
