use Rattle.std.proofs.Common.{◌≡◌, ◌++◌, drop, map}
use Rattle.dc_core.specs.View.{clause_view}
use Rattle.dc_goto.specs.View.{instr_view}
use Rattle.dc_instrument.specs.Lowering.{require_code}
use Rattle.dc_instrument.proofs.start.put_conditions.Given as goal

abbrev pub invariant-loop-clause : goal.invariant-loop-clause
invariant-loop-clause l =
    map instr_view l.out ++ require_code l.at (map clause_view (drop l.clause-index l.conditions))
    ≡ map instr_view l.fn.out ++ require_code l.at (map clause_view l.conditions)
