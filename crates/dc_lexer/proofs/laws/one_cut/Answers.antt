use Rattle.dc_lexer.proofs.OneCut.{one_list, one_stop, tokens_or_stop}
use Rattle.dc_lexer.proofs.laws.one_cut.Goals as goal

pub returns-clause-one_list : goal.returns-clause-one_list
returns-clause-one_list c = one_list

pub returns-clause-one_stop : goal.returns-clause-one_stop
returns-clause-one_stop c = one_stop

pub returns-clause-not_both : goal.returns-clause-not_both
returns-clause-not_both c = tokens_or_stop
