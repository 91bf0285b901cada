use Rattle.std.proofs.Common.{ap, ◌∙◌}
use Rattle.dc_read_expr.proofs.Places.{place_was}
use Rattle.dc_read_expr.proofs.read.place.Goals as goal

pub returns : goal.returns
returns c = place_was c.args.tokens.now c.args.from c.args.to _ _ _ _ _ c.new.ensures (c.number.ensures ∙ ap (λ t. t.number) c.index-tokens-to.is) (c.line.ensures ∙ ap (λ t. t.line) c.index-tokens-from.is) c.requires.bounds.0 c.requires.bounds.1
