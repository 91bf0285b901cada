use Rattle.std.proofs.Common.{length}
use Rattle.dc_goto.specs.Reading.{read_kind}
use Rattle.dc_scan.proofs.Many.{Goes}
use Rattle.dc_scan.proofs.signatures.read_params.Given as goal

abbrev pub invariant-each : goal.invariant-each
invariant-each l = Goes read_kind l.fn.cursor l.kinds l.cursor

abbrev pub decreases-each : goal.decreases-each
decreases-each l = length l.cursor
