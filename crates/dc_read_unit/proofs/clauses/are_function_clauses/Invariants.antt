use Rattle.std.proofs.Common.{◌≡◌, map, drop}
use Rattle.dc_syntax.specs.Parts as parts
use Rattle.dc_syntax.specs.UnitView.{part_view, clauses_part}
use Rattle.dc_read_unit.proofs.clauses.are_function_clauses.Given as goal

abbrev pub invariant-loop-clause : goal.invariant-loop-clause
invariant-loop-clause l = parts.are_function_clauses (clauses_part (map part_view (drop l.clause-index l.clauses))) ≡ parts.are_function_clauses (clauses_part (map part_view l.clauses))
