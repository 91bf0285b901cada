use Rattle.std.proofs.Common.{map, take}
use Rattle.dc_goto.specs.View.{sig_view}
use Rattle.dc_machine.specs.Linked.{IsIndex}
use Rattle.dc_machine.proofs.program.functions.Given as goal

abbrev pub invariant-loop-place : goal.invariant-loop-place
invariant-loop-place l = IsIndex (map (λ sig. sig.name) (map sig_view (take l.place l.sigs))) l.index
