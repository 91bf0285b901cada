use Rattle.std.proofs.Common.{◌∙◌}
use Rattle.dc_typing.proofs.Arguments.{not_three}
use Rattle.dc_typing.proofs.calls.three_of.Goals as goal

pub returns-then-len-ne3 : goal.returns-then-len-ne3
returns-then-len-ne3 c = not_three c.args.arguments (λ is. c.if-len-ne3.true (c.len.ensures ∙ is))
