use Rattle.std.proofs.Common.{◌-◌, length, drop}
use Rattle.dc_syntax.specs.Reading as spec
use Rattle.dc_syntax.specs.ReadingUnits as units
use Rattle.dc_read_unit.proofs.Lists.{Walked}
use Rattle.dc_read_unit.proofs.UnitLists.{inits_list}
use Rattle.dc_read_unit.proofs.initializers.Initializers.inits.Given as goal

abbrev pub decreases-loop-list : goal.decreases-loop-list
decreases-loop-list g l = length l.self.tokens.now - l.list.at

abbrev pub invariant-loop-list : goal.invariant-loop-list
invariant-loop-list g l =
    let r = spec.reads l.self.budget in
    let q = units.reads_part l.self.budget in
    let ts = drop l.at l.self.tokens.now in
    Walked (inits_list r q) (units.inits r q l.names.names (length ts) ts) l.self.tokens.now l.at l.self.budget l.list l.names.names
