use Rattle.std.proofs.Common.{◌≡◌, ◌++◌, ◌-◌, map}
use Rattle.dc_goto.specs.View.{instr_view}
use Rattle.dc_instrument.specs.Lowering.{parameters_code}
use Rattle.dc_instrument.proofs.function.put_parameters.Given as goal

abbrev pub invariant-loop-i : goal.invariant-loop-i
invariant-loop-i l =
    map instr_view l.out ++ parameters_code l.first l.i (l.n - l.i) ≡ map instr_view l.fn.out ++ parameters_code l.first 0 l.n
