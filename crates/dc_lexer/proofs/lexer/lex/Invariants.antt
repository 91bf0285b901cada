use Rattle.std.proofs.Common.{length}
use Rattle.dc_lexer.proofs.Cut.{Reached}
use Rattle.dc_lexer.proofs.lexer.lex.Given as goal

abbrev pub invariant-loop-rest : goal.invariant-loop-rest
invariant-loop-rest l = Reached l.bytes l.tokens l.line l.fresh l.rest

abbrev pub decreases-loop-rest : goal.decreases-loop-rest
decreases-loop-rest l = length l.rest
