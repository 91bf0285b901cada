use Rattle.std.proofs.Common.{drop, arith}
use Rattle.dc_syntax.specs.ReadingUnits as units
use Rattle.dc_read_unit.proofs.Heights.{part_more}
use Rattle.dc_read_unit.proofs.declarations.read_first.Goals as goal

pub returns : goal.returns
returns c = part_more c.args.tokens.now c.args.at c.args.height c.first_declaration.result units.FirstOf c.args.names.now.names (drop c.args.at c.args.tokens.now) (omega arith) c.first_declaration.ensures
