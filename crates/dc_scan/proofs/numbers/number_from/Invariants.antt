use Rattle.std.proofs.Common.{◌≡◌, ◌≤◌, length}
use Rattle.dc_goto.specs.Reading.{number_from}
use Rattle.dc_scan.proofs.numbers.number_from.Given as goal

abbrev pub invariant-loop-rest : goal.invariant-loop-rest
invariant-loop-rest l = (number_from l.limit 0 l.bytes ≡ number_from l.limit l.number l.rest) × (l.number ≤ l.limit)

abbrev pub decreases-loop-rest : goal.decreases-loop-rest
decreases-loop-rest l = length l.rest
