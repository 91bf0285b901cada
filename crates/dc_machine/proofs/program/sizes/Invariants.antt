use Rattle.std.proofs.Common.{◌≡◌, map, take}
use Rattle.dc_goto.specs.View.{static_view}
use Rattle.dc_machine.proofs.program.sizes.Given as goal

abbrev pub invariant-loop-variable : goal.invariant-loop-variable
invariant-loop-variable l = l.sizes.items ≡ map (λ v. v.size) (map static_view (take l.variable-index l.variable-items))
