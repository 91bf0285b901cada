use Rattle.std.proofs.Common.{◌-◌, length, drop}
use Rattle.dc_syntax.specs.Reading as spec
use Rattle.dc_syntax.specs.ReadingUnits as units
use Rattle.dc_read_unit.proofs.Lists.{Walked}
use Rattle.dc_read_unit.proofs.UnitLists.{declared_list}
use Rattle.dc_read_unit.proofs.clauses.Level.more_declarators.Given as goal

abbrev pub decreases-loop-scope : goal.decreases-loop-scope
decreases-loop-scope l = length l.self.tokens.now - l.list.at

abbrev pub invariant-loop-scope : goal.invariant-loop-scope
invariant-loop-scope l =
    let r = spec.reads l.self.budget in
    let q = units.reads_part l.self.budget in
    let ts = drop l.at l.self.tokens.now in
    Walked (declared_list r q l.is_type) (units.more_declared r q l.fn.names.names l.is_type (length ts) ts) l.self.tokens.now l.at l.self.budget l.list l.scope.names
