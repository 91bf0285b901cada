use Rattle.std.proofs.Common.{◌<◌, Ok, drop, map, ap, ◌∙◌, arith}
use Rattle.dc_syntax.specs.Trees.{Enumerators, declared}
use Rattle.dc_syntax.specs.Reading as spec
use Rattle.dc_syntax.specs.View.{raw_view, tag_view, more_tree}
use Rattle.dc_read_expr.proofs.Results.{listing_some, listing_none}
use Rattle.dc_read_expr.proofs.Tags.{reading_by}
use Rattle.dc_read_expr.proofs.Bodies.{enum_no_more, enum_more}
use Rattle.dc_read_expr.proofs.read.Grammar.enum_behind.Goals as goal

pub returns-in_default : goal.returns-in_default
returns-in_default g c =
    let f = c.args.self.now in
    let first = c.args.first in
    let ts = f.tokens.now in
    enum_no_more (spec.reads f.budget) c.args.names.now.names c.declare.new.names.names (drop c.args.at ts) (tag_view c.args.tag) (raw_view first.tree) (drop first.at ts)
    (c.in_ok-declare.ensures ∙ (ap (λ t. declared (raw_view t) c.within-scope.result.names) c.get.ensures ∙ ap (declared (raw_view first.tree)) c.within-scope.ensures))
    (listing_none ts first.at f.budget (more_tree Enumerators) _ c.more.result c.more.ensures (c.in_ok-more.was ∙ ap Ok c.in_default.is))

pub enum_ended-requires-clause-order : goal.enum_ended-requires-clause-order
enum_ended-requires-clause-order g c =
    let f = c.args.self.now in
    let l = listing_some f.tokens.now c.args.first.at f.budget (more_tree Enumerators) c.in-Some.more _ c.more.result c.more.ensures (c.in_ok-more.was ∙ ap Ok c.in-Some.is) in
    let after : c.args.at < c.in-Some.more.at = omega (arith, c.requires.order.0, l.after) in
    (after, l.within)

pub returns : goal.returns
returns g c =
    let f = c.args.self.now in
    let first = c.args.first in
    let ts = f.tokens.now in
    let l = listing_some f.tokens.now c.args.first.at f.budget (more_tree Enumerators) c.in-Some.more _ c.more.result c.more.ensures (c.in_ok-more.was ∙ ap Ok c.in-Some.is) in
    reading_by _ _ _ _ _ _ c.enum_ended.ensures
    (enum_more (spec.reads f.budget) c.args.names.now.names c.declare.new.names.names (drop c.args.at ts) (tag_view c.args.tag) (raw_view first.tree) (more_tree Enumerators (map raw_view c.in-Some.more.items)) (drop first.at ts) (drop c.in-Some.more.at ts)
    (c.in_ok-declare.ensures ∙ (ap (λ t. declared (raw_view t) c.within-scope.result.names) c.get.ensures ∙ ap (declared (raw_view first.tree)) c.within-scope.ensures)) l.found)
