use Rattle.dc_text.proofs.Spellings.{decimal_same, signed_same}
use Rattle.dc_text.proofs.laws.decimals_differ.Goals as goal

pub returns-clause-natural : goal.returns-clause-natural
returns-clause-natural c = decimal_same

pub returns-clause-signed : goal.returns-clause-signed
returns-clause-signed c = signed_same
