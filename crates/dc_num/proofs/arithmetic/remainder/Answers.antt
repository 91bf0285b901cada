use Rattle.std.proofs.Common.{ap, ◌∙◌, not}
use Rattle.dc_num.proofs.Machine.{remainder-read, remainder-none, quotient-same}
use Rattle.dc_num.proofs.arithmetic.remainder.Goals as goal

pub returns-then-is_none : goal.returns-then-is_none
returns-then-is_none c = remainder-none c.args.kind c.args.a c.args.b _ (c.quotient.ensures ∙ quotient-same c.args.kind c.args.a c.args.b c.ranges.a c.ranges.b) (c.is_none.ensures ∙ ap not c.if-is_none.true)

pub returns : goal.returns
returns c = remainder-read c.args.kind c.args.a c.args.b _ c.ranges.a c.ranges.b c.requires.left c.requires.right c.if-b-eq0.false (c.quotient.ensures ∙ quotient-same c.args.kind c.args.a c.args.b c.ranges.a c.ranges.b) (c.is_none.ensures ∙ ap not c.if-is_none.false)
