use Rattle.dc_writeset.proofs.Within.{is_write_allowed-inside, is_free_allowed-inside}
use Rattle.dc_writeset.proofs.laws.inside_is_allowed.Goals as goal

pub returns-clause-writes : goal.returns-clause-writes
returns-clause-writes c = is_write_allowed-inside

pub returns-clause-frees : goal.returns-clause-frees
returns-clause-frees c = is_free_allowed-inside
