use Rattle.std.proofs.Common.{map, length}
use Rattle.dc_scan.specs.View.{line_view}
use Rattle.dc_scan.proofs.Lined.{Lined}
use Rattle.dc_scan.proofs.lines.read_lines.Given as goal

abbrev pub invariant-each : goal.invariant-each
invariant-each l = Lined l.bytes (map line_view l.lines.items) l.cursor

abbrev pub decreases-each : goal.decreases-each
decreases-each l = length l.cursor
