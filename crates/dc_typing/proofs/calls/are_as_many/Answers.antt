use Rattle.dc_typing.proofs.Arguments.{as_many}
use Rattle.dc_typing.proofs.calls.are_as_many.Goals as goal

pub returns : goal.returns
returns c = as_many c.args.types.now c.args.arguments.now
