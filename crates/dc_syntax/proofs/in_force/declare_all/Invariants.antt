use Rattle.std.proofs.Common.{◌≡◌, map, drop}
use Rattle.dc_syntax.specs.UnitView.{part_view}
use Rattle.dc_syntax.proofs.InForce.{declaring_in}
use Rattle.dc_syntax.proofs.in_force.declare_all.Given as goal

abbrev pub invariant-loop-declarator : goal.invariant-loop-declarator
invariant-loop-declarator l = declaring_in l.is_type (map part_view (drop l.declarator-index l.declarators)) l.names.names ≡ declaring_in l.is_type (map part_view l.declarators) l.initial.names.names
