use Rattle.std.proofs.Common.{◌-◌, length, drop}
use Rattle.dc_syntax.specs.ReadingUnits as units
use Rattle.dc_read_unit.proofs.Lists.{Walked}
use Rattle.dc_read_unit.proofs.ClauseLists.{clauses_list}
use Rattle.dc_read_unit.proofs.clauses.Level.clauses.Given as goal

abbrev pub decreases-loop-list : goal.decreases-loop-list
decreases-loop-list l = length l.self.tokens.now - l.list.at

abbrev pub invariant-loop-list : goal.invariant-loop-list
invariant-loop-list l =
    let r = units.reads_part l.self.budget in
    let ts = drop l.at l.self.tokens.now in
    Walked (clauses_list r) (units.clauses r l.names.names (length ts) ts) l.self.tokens.now l.at l.self.budget l.list l.names.names
