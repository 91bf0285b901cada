use Rattle.std.proofs.Common.{drop, arith}
use Rattle.dc_syntax.specs.ReadingUnits as units
use Rattle.dc_read_unit.proofs.Heights.{part_more, part_zero}
use Rattle.dc_read_unit.proofs.initializers.+read_braces.Goals as goal

pub returns-then-height-eq0 : goal.returns-then-height-eq0
returns-then-height-eq0 t c = part_zero c.args.height units.BracesOf c.args.names.now.names (drop c.args.at c.args.tokens.now) c.if-height-eq0.true

pub returns : goal.returns
returns t c = part_more c.args.tokens.now c.args.at c.args.height c.braces.result units.BracesOf c.args.names.now.names (drop c.args.at c.args.tokens.now) (omega arith) c.braces.ensures
