use Rattle.std.proofs.Common.{arith}
use Rattle.std.proofs.lemmas.Grind.{common_steps}
use Rattle.dc_value.proofs.Listed.{is_among-reverse}
use Rattle.dc_value.proofs.ranges.is_seen.Goals as goal

pub returns-then-listed-object : goal.returns-then-listed-object
returns-then-listed-object c = rw (is_among-reverse c.args.object c.args.seen.now) (grind (arith, common_steps))

pub returns : goal.returns
returns c = rw (is_among-reverse c.args.object c.args.seen.now) (grind (arith, common_steps))
