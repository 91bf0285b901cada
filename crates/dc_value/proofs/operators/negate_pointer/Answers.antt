use Rattle.std.proofs.Common.{rules}
use Rattle.dc_value.proofs.Sixty_four.{pointer-unary}
use Rattle.dc_value.proofs.operators.negate_pointer.Goals as goal

pub returns : goal.returns
returns c = rw (pointer-unary c.args.op c.args.z) (search rules)
