use Rattle.std.proofs.Common.{refl}
use Rattle.dc_read_unit.proofs.WholeUnits.{unit_read, no_unit}
use Rattle.dc_read_unit.proofs.unit.read_unit.Goals as goal

pub returns-in-None-clause-none : goal.returns-in-None-clause-none
returns-in-None-clause-none c = λ e. no_unit 128 refl c.in_ok-names.names.names c.in_ok-names.ensures c.args.tokens.now c.externals.result c.externals.ensures (cc)

pub returns-clause-read : goal.returns-clause-read
returns-clause-read c = unit_read 128 refl c.in_ok-names.names.names c.in_ok-names.ensures c.args.tokens.now c.externals.result c.externals.ensures c.in-Some.list (cc)
