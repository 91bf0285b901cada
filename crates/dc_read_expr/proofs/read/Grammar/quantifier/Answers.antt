use Rattle.std.proofs.Common.{◌+◌, max, Ok, drop, refl, ap, ◌∙◌, subst}
use Rattle.dc_syntax.specs.View.{raw_view}
use Rattle.dc_syntax.specs.Reading as spec
use Rattle.dc_read_expr.specs.View.{IsReading}
use Rattle.dc_read_expr.specs.Quantified.{condition_behind}
use Rattle.dc_read_expr.proofs.Results.{reading_some}
use Rattle.dc_read_expr.proofs.Quantified.{quantifier_reading}
use Rattle.dc_read_expr.proofs.read.Grammar.quantifier.Goals as goal

pub returns : goal.returns
returns g c =
    let f = c.args.self.now in
    let d = c.in-Some.declarator in
    let e = c.in-Some-2.condition in
    quantifier_reading (spec.reads f.budget) f.budget f.names.now.names f.tokens.now c.args.at c.args.keyword c.args.specs d e _ _ c.requires.within.0 c.requires.high c.requires.low
    (reading_some f.tokens.now c.args.specs.at f.budget d _ c.declarator_named.result c.declarator_named.ensures (c.in_ok-declarator.was ∙ ap Ok c.in-Some.is))
    (subst (λ t. IsReading f.tokens.now d.at f.budget e (condition_behind (spec.reads f.budget) f.names.now.names (raw_view t) (drop d.at f.tokens.now))) c.get.ensures
    (reading_some f.tokens.now d.at f.budget e _ c.condition_behind.result c.condition_behind.ensures (c.in_ok-condition.was ∙ ap Ok c.in-Some-2.is)))
    c.in_ok-new.ensures c.place-place.ensures (ap (λ n. n + 1) (c.higher-height.ensures ∙ ap (max c.args.specs.height) c.higher.ensures)) refl
