use Rattle.std.proofs.Common.{length, map, ◌-◌}
use Rattle.dc_scan.specs.View.{line_view}
use Rattle.dc_scan.proofs.Judged.{Passed}
use Rattle.dc_scan.proofs.shape.code_from.Given as goal

abbrev pub decreases-each : goal.decreases-each
decreases-each l = length (map line_view l.lines) - l.end

abbrev pub invariant-each : goal.invariant-each
invariant-each l = Passed (map line_view l.fn.lines) l.fn.from l.end
