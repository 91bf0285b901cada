use Rattle.std.proofs.Common.{◌≡◌, drop}
use Rattle.dc_core.specs.Contract.{some_contains}
use Rattle.dc_world.specs.Sets.{ranges_view}
use Rattle.dc_world.proofs.sets.some_range_contains.Given as goal

abbrev pub invariant-loop-range : goal.invariant-loop-range
invariant-loop-range l = some_contains (ranges_view l.ranges) l.object l.from l.len ≡ some_contains (ranges_view (drop l.range-index l.ranges)) l.object l.from l.len
