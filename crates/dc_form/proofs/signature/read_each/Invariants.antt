use Rattle.std.proofs.Common.{◌≡◌, length}
use Rattle.dc_form.specs.Read.Signature.{read_each}
use Rattle.dc_form.proofs.signature.read_each.Given as goal

abbrev pub invariant-loop-error : goal.invariant-loop-error
invariant-loop-error l = read_each l.fn.names l.fn.tokens ≡ read_each l.names l.tokens

abbrev pub decreases-loop-error : goal.decreases-loop-error
decreases-loop-error l = length l.tokens
