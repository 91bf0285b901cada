use Rattle.std.proofs.Common.{◌≡◌, ◌++◌, map, take}
use Rattle.std.specs.Prelude.{replicate}
use Rattle.dc_memory.specs.declared.object.ObjKind.TheVariants.{Static}
use Rattle.dc_memory.specs.Objects.{holding}
use Rattle.dc_machine.proofs.machine.push_variables.Given as goal

abbrev pub invariant-loop-size : goal.invariant-loop-size
invariant-loop-size l = l.memory ≡ l.initial.memory ++ map (λ size. holding Static (replicate size 0)) (take l.size-index l.sizes)
