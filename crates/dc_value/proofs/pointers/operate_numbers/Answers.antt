use Rattle.std.proofs.Common.{pos, rules}
use Rattle.dc_value.proofs.Sixty_four.{pointer-binary}
use Rattle.dc_value.proofs.pointers.operate_numbers.Goals as goal

pub returns : goal.returns
returns c = rw (pointer-binary c.args.op (pos c.args.p) (pos c.args.q)) (search rules)
