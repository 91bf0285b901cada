use Rattle.std.proofs.Common.{length}
use Rattle.dc_form.proofs.Lexed.{Lexed}
use Rattle.dc_form.proofs.tokens.lex.Given as goal

abbrev pub invariant-loop-here : goal.invariant-loop-here
invariant-loop-here l = Lexed l.bytes l.tokens.items l.rest

abbrev pub decreases-loop-here : goal.decreases-loop-here
decreases-loop-here l = length l.rest
