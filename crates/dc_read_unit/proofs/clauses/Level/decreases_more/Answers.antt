use Rattle.std.proofs.Common.{◌+◌, Ok, refl, sym, ap, ◌∙◌}
use Rattle.dc_syntax.specs.Reading as spec
use Rattle.dc_syntax.specs.ReadingUnits as units
use Rattle.dc_syntax.specs.Trees.{Condition}
use Rattle.dc_syntax.specs.View.{more_tree}
use Rattle.dc_read_expr.proofs.Results.{listing_from}
use Rattle.dc_read_unit.proofs.Groups.{decreases_read}
use Rattle.dc_read_unit.proofs.clauses.Level.decreases_more.Goals as goal

pub returns : goal.returns
returns c =
    let f = c.args.self.now in
    let r = spec.reads f.budget in
    let env = c.args.names.now.names in
    decreases_read r env f.tokens.now c.args.at f.budget c.args.first c.in-Some.more c.place-place.result c.behind-end.result _ c.requires.high c.requires.low c.requires.order.0
    (listing_from f.tokens.now _ c.args.first.at f.budget (more_tree Condition) c.in-Some.more (units.conditions r env) c.read_conditions.result c.read_conditions.ensures refl (c.in_ok-more.was ∙ ap Ok c.in-Some.is))
    (sym c.closes.ensures ∙ c.if-not-closes.false) c.behind-end.ensures c.in_ok-new.ensures c.place-place.ensures (ap (λ n. n + 1) c.higher.ensures) refl
