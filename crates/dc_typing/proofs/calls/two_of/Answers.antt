use Rattle.std.proofs.Common.{◌∙◌}
use Rattle.dc_typing.proofs.Arguments.{not_two}
use Rattle.dc_typing.proofs.calls.two_of.Goals as goal

pub returns-then-len-ne2 : goal.returns-then-len-ne2
returns-then-len-ne2 c = not_two c.args.arguments (λ is. c.if-len-ne2.true (c.len.ensures ∙ is))
