use Rattle.std.proofs.Common.{◌+◌, Ok, refl, ap, ◌∙◌}
use Rattle.dc_syntax.specs.View.{raw_view}
use Rattle.dc_syntax.specs.Reading as spec
use Rattle.dc_read_expr.proofs.Results.{reading_some}
use Rattle.dc_read_expr.proofs.Closed.{next_mark}
use Rattle.dc_read_expr.proofs.Quantified.{condition_reading}
use Rattle.dc_read_expr.proofs.read.Grammar.condition_behind.Goals as goal

pub returns : goal.returns
returns g c =
    let f = c.args.self.now in
    let s = c.in-Some-Marked-Semicolon in
    let m = c.in-Some-Marked-RightBrace in
    condition_reading (spec.reads f.budget) f.names.now.names (raw_view c.args.declarator.now) f.tokens.now c.args.at f.budget c.in-Some.body _ (next_mark f.tokens.now _ s.field-0 s.field-0-0 _ s.ensures s.field-0-is s.field-0-0-is)
    (reading_some f.tokens.now (c.args.at + 1) f.budget c.in-Some.body _ c.quantified_body.result c.quantified_body.ensures (c.in_ok-body.was ∙ ap Ok c.in-Some.is))
    (next_mark f.tokens.now _ m.field-0 m.field-0-0 _ m.ensures m.field-0-is m.field-0-0-is) refl refl refl
