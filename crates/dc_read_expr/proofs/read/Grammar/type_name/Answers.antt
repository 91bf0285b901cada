use Rattle.std.proofs.Common.{Ok, drop, map, refl, sym, ap, ◌∙◌}
use Rattle.dc_syntax.specs.Trees.{is_named}
use Rattle.dc_syntax.specs.Reading as spec
use Rattle.dc_syntax.specs.View.{raw_view, specs_tree}
use Rattle.dc_read_expr.proofs.Results.{specifying_some, specifying_none, loosely_some, loosely_none}
use Rattle.dc_read_expr.proofs.TypeNames.{type_no_specs, type_no_declarator, type_named, type_reading}
use Rattle.dc_read_expr.proofs.read.Grammar.type_name.Goals as goal

pub returns-in_default : goal.returns-in_default
returns-in_default g c =
    let f = c.args.self.now in
    let ts = f.tokens.now in
    type_no_specs (spec.reads f.budget) f.budget f.names.now.names (drop c.args.at ts)
    (specifying_none ts c.args.at f.budget _ c.bare.result c.bare.ensures (c.in_ok-read.was ∙ ap Ok c.in_default.is))

pub returns-in_default-2 : goal.returns-in_default-2
returns-in_default-2 g c =
    let f = c.args.self.now in
    let ts = f.tokens.now in
    let q = specifying_some ts c.args.at f.budget c.in-Some.read _ c.bare.result c.bare.ensures (c.in_ok-read.was ∙ ap Ok c.in-Some.is) in
    type_no_declarator (spec.reads f.budget) f.budget f.names.now.names (drop c.args.at ts) (specs_tree (map raw_view c.in-Some.read.specs)) (drop c.in-Some.read.at ts) q.found
    (loosely_none ts c.in-Some.read.at f.budget _ c.declarator_or_none.result c.declarator_or_none.ensures (c.in_ok-declarator.was ∙ ap Ok c.in_default-2.is))

pub returns-then-is_named : goal.returns-then-is_named
returns-then-is_named g c =
    let f = c.args.self.now in
    let ts = f.tokens.now in
    let d = c.in-Some-2.declarator in
    let q = specifying_some ts c.args.at f.budget c.in-Some.read _ c.bare.result c.bare.ensures (c.in_ok-read.was ∙ ap Ok c.in-Some.is) in
    let l = loosely_some ts c.in-Some.read.at f.budget c.in-Some-2.declarator _ c.declarator_or_none.result c.declarator_or_none.ensures (c.in_ok-declarator.was ∙ ap Ok c.in-Some-2.is) in
    type_named (spec.reads f.budget) f.budget f.names.now.names (drop c.args.at ts) (specs_tree (map raw_view c.in-Some.read.specs)) (raw_view d.tree) (drop c.in-Some.read.at ts) (drop d.at ts) q.found l.found
    (ap (λ t. is_named (raw_view t)) (sym c.get.ensures) ∙ (sym c.is_named.ensures ∙ c.if-is_named.true))

pub returns : goal.returns
returns g c =
    let f = c.args.self.now in
    let ts = f.tokens.now in
    type_reading (spec.reads f.budget) f.names.now.names ts c.args.at f.budget c.in-Some.read c.in-Some-2.declarator _ c.place.result
    (specifying_some ts c.args.at f.budget c.in-Some.read _ c.bare.result c.bare.ensures (c.in_ok-read.was ∙ ap Ok c.in-Some.is))
    (loosely_some ts c.in-Some.read.at f.budget c.in-Some-2.declarator _ c.declarator_or_none.result c.declarator_or_none.ensures (c.in_ok-declarator.was ∙ ap Ok c.in-Some-2.is))
    (ap (λ t. is_named (raw_view t)) (sym c.get.ensures) ∙ (sym c.is_named.ensures ∙ c.if-is_named.false)) c.in_ok-new.ensures c.place.ensures c.higher.ensures refl
