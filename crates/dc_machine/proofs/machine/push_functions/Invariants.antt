use Rattle.std.proofs.Common.{◌≡◌, ◌++◌}
use Rattle.std.specs.Prelude.{replicate}
use Rattle.dc_core.specs.Objects.{function_object}
use Rattle.dc_machine.proofs.machine.push_functions.Given as goal

abbrev pub invariant-loop-at : goal.invariant-loop-at
invariant-loop-at l = l.memory ≡ l.initial.memory ++ replicate l._at function_object
