use Rattle.std.proofs.Common.{◌≡◌, ◌++◌}
use Rattle.std.specs.Vec.Iter.{into_iter_items}
use Rattle.dc_world.specs.View.{objects_view}
use Rattle.dc_world.proofs.memory.add_all.Given as goal

abbrev pub invariant-loop-object : goal.invariant-loop-object
invariant-loop-object l = record {
  added : l.memory ≡ l.initial.memory ++ objects_view l.yielded;
  others : l.yielded ++ into_iter_items l.object-iterator ≡ l.fn.objects.items;
}
