use Rattle.std.proofs.Common.{◌≡◌, length}
use Rattle.dc_lexer.specs.Reading.{at_start}
use Rattle.dc_lexer.proofs.directives.at_start.Given as goal

abbrev pub invariant-loop-rest : goal.invariant-loop-rest
invariant-loop-rest l = at_start l.fresh l.bytes ≡ at_start l.now l.rest

abbrev pub decreases-loop-rest : goal.decreases-loop-rest
decreases-loop-rest l = length l.rest
