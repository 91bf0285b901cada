use Rattle.std.proofs.Common.{map, take}
use Rattle.dc_goto.specs.View.{body_view}
use Rattle.dc_machine.specs.Linked.{IsIndex}
use Rattle.dc_machine.proofs.program.bodies.Given as goal

abbrev pub invariant-loop-place : goal.invariant-loop-place
invariant-loop-place l = IsIndex (map (λ body. body.name) (map body_view (take l.place l.bodies))) l.index
