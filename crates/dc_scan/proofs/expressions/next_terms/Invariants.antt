use Rattle.std.proofs.Common.{map, length}
use Rattle.dc_core.specs.View.{term_view}
use Rattle.dc_goto.specs.Reading.{read_low}
use Rattle.dc_scan.proofs.Many.{Goes}
use Rattle.dc_scan.proofs.expressions.next_terms.Given as goal

abbrev pub invariant-each : goal.invariant-each
invariant-each l = Goes read_low l.fn.cursor (map term_view l.terms) l.cursor

abbrev pub decreases-each : goal.decreases-each
decreases-each l = length l.cursor
