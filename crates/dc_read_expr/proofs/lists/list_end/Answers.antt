use Rattle.std.proofs.Common.{◌+◌, drop, sym, ◌∙◌, ap}
use Rattle.dc_syntax.specs.declared.mark.Mark.TheVariants.{Comma, RightBrace}
use Rattle.dc_syntax.specs.Tokens.{Marked}
use Rattle.dc_syntax.specs.Reading.{begins}
use Rattle.dc_read_expr.proofs.Eating.{within_begins, ends_by_comma, no_end_by_comma, ends_by_brace}
use Rattle.dc_read_expr.proofs.lists.list_end.Goals as goal

pub behind-brace-requires : goal.behind-brace-requires
behind-brace-requires c = record { within = within_begins (Marked Comma) _ _ (sym c.begins_comma.ensures ∙ c.if-begins_comma.true) }

pub returns-then-not-closes_body : goal.returns-then-not-closes_body
returns-then-not-closes_body c =
    let ts = c.args.tokens.now in
    no_end_by_comma ts c.args.at (sym c.begins_comma.ensures ∙ c.if-begins_comma.true)
    (ap (λ k. begins (Marked RightBrace) (drop k ts)) (sym c.behind-brace.ensures) ∙ (sym c.closes_body.ensures ∙ c.if-not-closes_body.true))

pub returns-then-begins_comma : goal.returns-then-begins_comma
returns-then-begins_comma c =
    let ts = c.args.tokens.now in
    ends_by_comma ts c.args.at _ (sym c.begins_comma.ensures ∙ c.if-begins_comma.true)
    (ap (λ k. begins (Marked RightBrace) (drop k ts)) (sym c.behind-brace.ensures) ∙ (sym c.closes_body.ensures ∙ c.if-not-closes_body.false)) (c.behind.ensures ∙ ap (λ k. k + 1) c.behind-brace.ensures)

pub returns : goal.returns
returns c = ends_by_brace c.args.tokens.now c.args.at _ (sym c.begins_comma.ensures ∙ c.if-begins_comma.false) (sym c.closes_body-2.ensures ∙ c.if-not-closes_body-2.false) c.behind-2.ensures
