use Rattle.std.proofs.Common.{◌≡◌, suc, ◌++◌, drop}
use Rattle.dc_syntax.specs.Lexed.{numbered, grammar_tokens}
use Rattle.dc_syntax.proofs.lexed.grammar_tokens.Given as goal

abbrev pub invariant-loop-at : goal.invariant-loop-at
invariant-loop-at l = l.tokens.items ++ numbered (suc l.at) (drop l.at l.source) ≡ grammar_tokens l.source
