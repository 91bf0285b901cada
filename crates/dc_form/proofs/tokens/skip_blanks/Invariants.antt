use Rattle.std.proofs.Common.{◌≡◌, length}
use Rattle.dc_form.specs.Read.Tokens.{after_blanks}
use Rattle.dc_form.proofs.tokens.skip_blanks.Given as goal

abbrev pub invariant-loop-rest : goal.invariant-loop-rest
invariant-loop-rest l = after_blanks l.bytes ≡ after_blanks l.rest

abbrev pub decreases-loop-rest : goal.decreases-loop-rest
decreases-loop-rest l = length l.rest
