use Rattle.std.proofs.Common.{◌≡◌, ◌+◌, Ok, drop, ap, ◌∙◌, rules}
use Rattle.dc_syntax.specs.Reading as spec
use Rattle.dc_syntax.specs.Reading.{Nothing, Found}
use Rattle.dc_read_expr.proofs.Results.{specifying_some}
use Rattle.dc_read_expr.proofs.Tags.{reading_by}
use Rattle.dc_read_expr.proofs.Closed.{next_mark}
use Rattle.dc_read_expr.proofs.Quantified.{quantified_no_specs, quantified_specs}
use Rattle.dc_read_expr.proofs.read.Grammar.quantified.Goals as goal

pub returns-in_default-2 : goal.returns-in_default-2
returns-in_default-2 g c =
    let f = c.args.self.now in
    let m = c.in-Some-Marked-LeftBrace in
    let e : spec.bare (spec.reads c.args.self.now.budget) c.args.self.now.budget c.args.self.now.names.now.names (drop (c.args.at + 1 + 1) c.args.self.now.tokens.now) Found ≡ Nothing = search rules in
    quantified_no_specs (spec.reads f.budget) f.budget f.names.now.names (drop c.args.at f.tokens.now) c.args.keyword f.tokens.now (c.args.at + 1) (next_mark f.tokens.now _ m.field-0 m.field-0-0 _ m.ensures m.field-0-is m.field-0-0-is) e

pub returns : goal.returns
returns g c =
    let f = c.args.self.now in
    let m = c.in-Some-Marked-LeftBrace in
    let q = specifying_some f.tokens.now (c.args.at + 1 + 1) f.budget c.in-Some.read (spec.bare (spec.reads f.budget) f.budget f.names.now.names (drop (c.args.at + 1 + 1) f.tokens.now) Found) c.bare.result c.bare.ensures (c.in_ok-read.was ∙ ap Ok c.in-Some.is) in
    reading_by _ _ _ _ _ _ c.quantifier.ensures
    (quantified_specs (spec.reads f.budget) f.budget f.names.now.names (drop c.args.at f.tokens.now) c.args.keyword f.tokens.now (c.args.at + 1) _ _ (next_mark f.tokens.now _ m.field-0 m.field-0-0 _ m.ensures m.field-0-is m.field-0-0-is) q.found)
