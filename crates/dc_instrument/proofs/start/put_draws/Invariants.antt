use Rattle.std.proofs.Common.{◌≡◌, ◌++◌, ◌-◌, map}
use Rattle.dc_goto.specs.View.{instr_view}
use Rattle.dc_instrument.specs.Lowering.{draws_code}
use Rattle.dc_instrument.proofs.start.put_draws.Given as goal

abbrev pub invariant-loop-i : goal.invariant-loop-i
invariant-loop-i l = map instr_view l.out ++ draws_code l.i (l.n - l.i) ≡ map instr_view l.fn.out ++ draws_code 0 l.n
