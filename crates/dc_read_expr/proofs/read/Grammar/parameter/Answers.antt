use Rattle.std.proofs.Common.{◌≡◌, Ok, map, drop, refl, ap, ◌∙◌, rules}
use Rattle.dc_syntax.specs.Reading as spec
use Rattle.dc_syntax.specs.Reading.{Nothing, Found}
use Rattle.dc_syntax.specs.View.{raw_view, specs_tree}
use Rattle.dc_read_expr.proofs.Results.{specifying_some, loosely_some}
use Rattle.dc_read_expr.proofs.Bare.{parameter_no_declarator, parameter_reading}
use Rattle.dc_read_expr.proofs.read.Grammar.parameter.Goals as goal

pub returns-in_default-2 : goal.returns-in_default-2
returns-in_default-2 g c =
    let f = c.args.self.now in
    let s = c.in-Some.read in
    let q = specifying_some f.tokens.now c.args.at f.budget s (spec.bare (spec.reads f.budget) f.budget c.args.names.now.names (drop c.args.at f.tokens.now) Found) c.bare.result c.bare.ensures (c.in_ok-read.was ∙ ap Ok c.in-Some.is) in
    let e : spec.declarator_or_none (spec.reads c.args.self.now.budget) c.args.names.now.names (drop c.in-Some.read.at c.args.self.now.tokens.now) ≡ Nothing = search rules in
    parameter_no_declarator (spec.reads f.budget) f.budget c.args.names.now.names (drop c.args.at f.tokens.now) (specs_tree (map raw_view s.specs)) (drop s.at f.tokens.now) q.found e

pub returns : goal.returns
returns g c =
    let f = c.args.self.now in
    parameter_reading (spec.reads f.budget) f.budget c.args.names.now.names f.tokens.now c.args.at c.in-Some.read c.in-Some-2.declarator c.place.result _
    (specifying_some f.tokens.now c.args.at f.budget c.in-Some.read _ c.bare.result c.bare.ensures (c.in_ok-read.was ∙ ap Ok c.in-Some.is))
    (loosely_some f.tokens.now c.in-Some.read.at f.budget c.in-Some-2.declarator _ c.declarator_or_none.result c.declarator_or_none.ensures (c.in_ok-declarator.was ∙ ap Ok c.in-Some-2.is))
    c.in_ok-new.ensures c.place.ensures c.higher.ensures refl
