use Rattle.std.proofs.Common.{◌≡◌, ◌+◌, drop, map}
use Rattle.dc_core.specs.Contract.{with_ranges, ranges_of, set_of}
use Rattle.dc_core.specs.View.{target_view}
use Rattle.dc_world.specs.Sets.{set_view}
use Rattle.dc_run.specs.View.{scope_view}
use Rattle.dc_run.proofs.clause.target_set.Given as goal

abbrev pub invariant-loop-target : goal.invariant-loop-target
invariant-loop-target l = record {
  number : l.tag ≡ l.target-index;
  set : set_of (map target_view l.targets) (scope_view l.scope) l.memory
      ≡ with_ranges (ranges_of (l.tag + 1) (scope_view l.scope) l.memory (map target_view (drop l.target-index l.targets))) (set_view l.set);
}
