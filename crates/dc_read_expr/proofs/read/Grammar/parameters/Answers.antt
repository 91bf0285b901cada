use Rattle.std.proofs.Common.{◌≡◌, Ok, length, drop, sym, ap, ◌∙◌, rules}
use Rattle.dc_syntax.specs.Trees.{Parameters, declared}
use Rattle.dc_syntax.specs.Reading as spec
use Rattle.dc_syntax.specs.Reading.{Nothing}
use Rattle.dc_syntax.specs.View.{raw_view, more_tree}
use Rattle.dc_read_expr.proofs.Results.{reading_some, listing_some}
use Rattle.dc_read_expr.proofs.ParameterLists.{parameters_no_first, parameters_no_more, parameters_whole}
use Rattle.dc_read_expr.proofs.read.Grammar.parameters.Goals as goal

pub returns-in_default : goal.returns-in_default
returns-in_default g c =
    let f = c.args.self.now in
    let e : spec.parameter (spec.reads c.args.self.now.budget) c.args.self.now.budget c.args.self.now.names.now.names (drop c.args.at c.args.self.now.tokens.now) ≡ Nothing = search rules in
    parameters_no_first (spec.reads f.budget) f.budget f.names.now.names (drop c.args.at f.tokens.now) (sym c.closes.ensures ∙ c.if-closes.false) e

pub returns-in_default-2 : goal.returns-in_default-2
returns-in_default-2 g c =
    let f = c.args.self.now in
    let first = c.in-Some.first in
    let q = reading_some f.tokens.now c.args.at f.budget first (spec.parameter (spec.reads f.budget) f.budget f.names.now.names (drop c.args.at f.tokens.now)) c.parameter.result c.parameter.ensures (c.in_ok-first.was ∙ ap Ok c.in-Some.is) in
    let e : spec.more (spec.parameter (spec.reads c.args.self.now.budget) c.args.self.now.budget) Parameters c.declare.new.names.names (length (drop c.in-Some.first.at c.args.self.now.tokens.now)) (drop c.in-Some.first.at c.args.self.now.tokens.now) ≡ Nothing = search rules in
    parameters_no_more (spec.reads f.budget) f.budget f.names.now.names c.declare.new.names.names (drop c.args.at f.tokens.now) (raw_view first.tree) (drop first.at f.tokens.now) (sym c.closes.ensures ∙ c.if-closes.false) q.found
    (c.in_ok-declare.ensures ∙ (ap (λ t. declared (raw_view t) c.within-scope.result.names) c.get.ensures ∙ ap (declared (raw_view first.tree)) c.within-scope.ensures)) e

pub returns : goal.returns
returns g c =
    let f = c.args.self.now in
    let first = c.in-Some.first in
    let q = reading_some f.tokens.now c.args.at f.budget first (spec.parameter (spec.reads f.budget) f.budget f.names.now.names (drop c.args.at f.tokens.now)) c.parameter.result c.parameter.ensures (c.in_ok-first.was ∙ ap Ok c.in-Some.is) in
    parameters_whole (spec.reads f.budget) f.budget f.names.now.names c.declare.new.names.names f.tokens.now c.args.at first c.in-Some-2.more c.in_ok-parameter_list.field-0 (sym c.closes.ensures ∙ c.if-closes.false) q
    (c.in_ok-declare.ensures ∙ (ap (λ t. declared (raw_view t) c.within-scope.result.names) c.get.ensures ∙ ap (declared (raw_view first.tree)) c.within-scope.ensures))
    (listing_some f.tokens.now first.at f.budget (more_tree Parameters) c.in-Some-2.more _ c.more_parameters.result c.more_parameters.ensures (c.in_ok-more.was ∙ ap Ok c.in-Some-2.is)) c.in_ok-parameter_list.ensures
