use Rattle.std.proofs.Common.{drop, sym, ap, ◌∙◌}
use Rattle.dc_syntax.specs.declared.mark.Mark.TheVariants.{RightBracket}
use Rattle.dc_syntax.specs.Tokens.{Marked}
use Rattle.dc_syntax.specs.Reading.{begins}
use Rattle.dc_read_expr.proofs.read.Grammar.length_behind.Goals as goal

pub unsized_behind-requires-clause-closed : goal.unsized_behind-requires-clause-closed
unsized_behind-requires-clause-closed g c =
    ap (λ k. begins (Marked RightBracket) (drop k c.args.self.now.tokens.now)) (sym c.behind.ensures) ∙ (sym c.closes_length.ensures ∙ c.if-closes_length.true)

pub sized_behind-requires-clause-open_yet : goal.sized_behind-requires-clause-open_yet
sized_behind-requires-clause-open_yet g c =
    ap (λ k. begins (Marked RightBracket) (drop k c.args.self.now.tokens.now)) (sym c.behind.ensures) ∙ (sym c.closes_length.ensures ∙ c.if-closes_length.false)
