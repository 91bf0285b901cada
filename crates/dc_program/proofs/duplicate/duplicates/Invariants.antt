use Rattle.std.proofs.Common.{◌≡◌, take}
use Rattle.dc_program.proofs.duplicate.duplicates.Given as goal

abbrev pub invariant-loop-one : goal.invariant-loop-one
invariant-loop-one g l = l.copy ≡ take l.one-index l.one-items
