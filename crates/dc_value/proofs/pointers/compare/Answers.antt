use Rattle.std.proofs.Common.{rules}
use Rattle.dc_value.proofs.Sixty_four.{converted-pointer}
use Rattle.dc_value.proofs.pointers.compare.Goals as goal

pub returns-then-are_together : goal.returns-then-are_together
returns-then-are_together c = rw (converted-pointer c.args.p (search rules), converted-pointer c.args.q (search rules)) (search rules)
