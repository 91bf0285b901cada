use Rattle.std.proofs.Common.{refl, sym, ap, ◌∙◌}
use Rattle.dc_read_expr.proofs.ParameterLists.{lone, void_list, some_list}
use Rattle.dc_read_expr.proofs.declarators.parameter_list.Goals as goal

pub returns-then-is_lone : goal.returns-then-is_lone
returns-then-is_lone c = void_list c.args.first c.args.more (ap (λ t. lone t c.args.more.items) (sym c.get.ensures) ∙ (sym c.is_lone.ensures ∙ c.if-is_lone.true)) c.requires.more_high

pub returns : goal.returns
returns c =
    some_list c.args.first c.args.more _ (ap (λ t. lone t c.args.more.items) (sym c.get.ensures) ∙ (sym c.is_lone.ensures ∙ c.if-is_lone.false)) c.requires.first_high c.requires.more_high
    c.in_ok-items.ensures c.higher-height.ensures refl
