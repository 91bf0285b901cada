use Rattle.std.proofs.Common.{◌∙◌, map}
use Rattle.dc_syntax.specs.View.{raw_view}
use Rattle.dc_typing.proofs.PlainLists.{plain-arguments, plain-parameters}
use Rattle.dc_typing.proofs.plain.+plain.Goals as goal

pub are_plain_arguments-returns : goal.are_plain_arguments-returns
are_plain_arguments-returns t c = c.are_plain.ensures ∙ plain-arguments (map raw_view c.args.all.now)

pub are_plain_parameters-returns : goal.are_plain_parameters-returns
are_plain_parameters-returns t c = c.are_plain.ensures ∙ plain-parameters (map raw_view c.args.all.now)
