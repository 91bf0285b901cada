use Rattle.std.proofs.Common.{◌≡◌, drop}
use Rattle.dc_goto.specs.Acts.{same_kinds}
use Rattle.dc_machine.proofs.program.same_kinds.Given as goal

abbrev pub invariant-loop-place : goal.invariant-loop-place
invariant-loop-place l = same_kinds (drop l.place l.a) (drop l.place l.b) ≡ same_kinds l.a l.b
