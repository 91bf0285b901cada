use Rattle.std.proofs.Common.{◌≡◌, ◌++◌, drop, map}
use Rattle.dc_core.specs.View.{clause_view}
use Rattle.dc_goto.specs.View.{instr_view}
use Rattle.dc_instrument.specs.Lowering.{checks_code}
use Rattle.dc_instrument.proofs.start.put_tests.Given as goal

abbrev pub invariant-loop-clause : goal.invariant-loop-clause
invariant-loop-clause l =
    map instr_view l.out ++ checks_code l.name l.at l.number (map clause_view (drop l.clause-index l.clauses))
    ≡ map instr_view l.fn.out ++ checks_code l.name l.at 1 (map clause_view l.clauses)
