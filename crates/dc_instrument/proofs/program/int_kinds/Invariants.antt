use Rattle.std.proofs.Common.{◌≡◌, ◌++◌, ◌-◌}
use Rattle.dc_instrument.specs.Lowering.{ints}
use Rattle.dc_instrument.proofs.program.int_kinds.Given as goal

abbrev pub invariant-loop-index : goal.invariant-loop-index
invariant-loop-index l = l.kinds ++ ints (l.n - l._index) ≡ ints l.n
