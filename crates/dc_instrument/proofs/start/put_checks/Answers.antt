use Rattle.dc_instrument.proofs.Emitting.{checks_group}
use Rattle.dc_instrument.proofs.start.put_checks.Goals as goal

pub returns : goal.returns
returns c = checks_group _ _ _ c.args.name.now c.args.at c.args.clauses.now _ c.is_empty.ensures c.if-is_empty.false c.in_ok-put.ensures c.in_ok-put_tests.ensures
