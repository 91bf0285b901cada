use Rattle.std.proofs.Common.{length}
use Rattle.dc_lexer.specs.Pieces.{IsQuiet}
use Rattle.dc_lexer.proofs.directives.is_quiet.Given as goal

abbrev pub invariant-loop-rest : goal.invariant-loop-rest
invariant-loop-rest l = (IsQuiet l.rest → IsQuiet l.bytes) × (IsQuiet l.bytes → IsQuiet l.rest)

abbrev pub decreases-loop-rest : goal.decreases-loop-rest
decreases-loop-rest l = length l.rest
