use Rattle.std.proofs.Common.{◌≡◌, ◌+◌, suc, drop}
use Rattle.dc_core.specs.Objects.{rewritten}
use Rattle.dc_world.specs.View.{objects_view}
use Rattle.dc_world.proofs.memory.rewrite_all.Given as goal

-- what is still to be rewritten
abbrev pub invariant-loop-object : goal.invariant-loop-object
invariant-loop-object l = record {
  number : l.number ≡ l.count + l.object-index;
  rewrites : rewritten (suc l.number) (objects_view (drop l.object-index l.objects)) l.memory ≡ rewritten (suc l.count) (objects_view l.objects) l.initial.memory;
}
