use Rattle.std.proofs.Common.{◌≡◌, ◌++◌, drop, map}
use Rattle.dc_core.specs.View.{stmt_view}
use Rattle.dc_goto.specs.View.{instr_view}
use Rattle.dc_instrument.specs.Lowering.{statements_code}
use Rattle.dc_instrument.proofs.function.put_statements.Given as goal

abbrev pub invariant-loop-s : goal.invariant-loop-s
invariant-loop-s l =
    map instr_view l.out ++ statements_code l.name l.first l.next (map stmt_view (drop l.s-index l.body))
    ≡ map instr_view l.fn.out ++ statements_code l.name l.first l.register (map stmt_view l.body)
