use Rattle.std.proofs.Common.{sym}
use Rattle.dc_rules.proofs.Likeness.{all_same-lengths}
use Rattle.dc_rules.proofs.equality.+same.Goals as goal

pub all_same-returns-then-types-others : goal.all_same-returns-then-types-others
all_same-returns-then-types-others t c = sym (all_same-lengths c.args.types.now c.args.others.now c.if-types-others.true)
