use Rattle.dc_text.proofs.Spellings.{decimal_digits, decimal_some}
use Rattle.dc_text.proofs.laws.decimals_are_digits.Goals as goal

pub returns-clause-digits : goal.returns-clause-digits
returns-clause-digits c = decimal_digits

pub returns-clause-some : goal.returns-clause-some
returns-clause-some c = decimal_some
