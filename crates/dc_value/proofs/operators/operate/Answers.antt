use Rattle.std.proofs.Common.{rules}
use Rattle.dc_value.proofs.Sixty_four.{pointer-converted}
use Rattle.dc_value.proofs.operators.operate.Goals as goal

pub returns-then-is_pointer : goal.returns-then-is_pointer
returns-then-is_pointer c = rw (pointer-converted c.args.a, pointer-converted c.args.b) (search rules)
