use Rattle.std.proofs.Common.{ap, sym, ◌∙◌}
use Rattle.dc_form.specs.Read.Numbers.{small}
use Rattle.dc_form.proofs.Decimals.{decimal_is}
use Rattle.dc_form.proofs.numbers.number_of.Goals as goal

pub returns : goal.returns
returns c = c.small_one.ensures ∙ ap small (sym (decimal_is c.args.bytes.now c.read_decimal.result c.read_decimal.ensures))
