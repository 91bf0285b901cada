use Rattle.std.proofs.Common.{◌-◌, length, drop}
use Rattle.dc_syntax.specs.ReadingUnits as units
use Rattle.dc_read_unit.proofs.Lists.{Walked}
use Rattle.dc_read_unit.proofs.UnitLists.{items_list}
use Rattle.dc_read_unit.proofs.statements.Statements.items.Given as goal

abbrev pub decreases-loop-scope : goal.decreases-loop-scope
decreases-loop-scope g l = length l.self.tokens.now - l.list.at

abbrev pub invariant-loop-scope : goal.invariant-loop-scope
invariant-loop-scope g l =
    let q = units.reads_part l.self.budget in
    let ts = drop l.at l.self.tokens.now in
    Walked (items_list q) (units.items q l.fn.names.names (length ts) ts) l.self.tokens.now l.at l.self.budget l.list l.scope.names
