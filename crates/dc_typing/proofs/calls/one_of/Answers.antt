use Rattle.std.proofs.Common.{◌∙◌}
use Rattle.dc_typing.proofs.Arguments.{not_one}
use Rattle.dc_typing.proofs.calls.one_of.Goals as goal

pub returns-then-len-ne1 : goal.returns-then-len-ne1
returns-then-len-ne1 c = not_one c.args.arguments (λ is. c.if-len-ne1.true (c.len.ensures ∙ is))
