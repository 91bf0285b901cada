use Rattle.std.proofs.Common.{◌+◌, Ok, refl, sym, ap, ◌∙◌}
use Rattle.dc_syntax.specs.Trees.{is_nameless}
use Rattle.dc_syntax.specs.Reading as spec
use Rattle.dc_syntax.specs.View.{raw_view}
use Rattle.dc_read_expr.proofs.Results.{loosely_some}
use Rattle.dc_read_expr.proofs.Closed.{next_mark}
use Rattle.dc_read_expr.proofs.Directs.{wrapped_nameless, wrapped_reading}
use Rattle.dc_read_expr.proofs.read.Grammar.wrapped.Goals as goal

pub returns-then-is_nameless : goal.returns-then-is_nameless
returns-then-is_nameless g c =
    let f = c.args.self.now in
    wrapped_nameless (spec.reads f.budget) f.names.now.names f.tokens.now c.args.at f.budget c.in-Some.inner c.requires.begins c.requires.opens
    (loosely_some f.tokens.now (c.args.at + 1) f.budget c.in-Some.inner _ c.below.result c.below.ensures (c.in_ok-inner.was ∙ ap Ok c.in-Some.is)) (ap (λ t. is_nameless (raw_view t)) (sym c.get.ensures) ∙ (sym c.is_nameless.ensures ∙ c.if-is_nameless.true))

pub returns : goal.returns
returns g c =
    let f = c.args.self.now in
    let m = c.in-Some-Marked-RightParen in
    wrapped_reading (spec.reads f.budget) f.names.now.names f.tokens.now c.args.at f.budget c.in-Some.inner c.place.result _ c.requires.begins c.requires.opens
    (loosely_some f.tokens.now (c.args.at + 1) f.budget c.in-Some.inner _ c.below.result c.below.ensures (c.in_ok-inner.was ∙ ap Ok c.in-Some.is)) (ap (λ t. is_nameless (raw_view t)) (sym c.get.ensures) ∙ (sym c.is_nameless.ensures ∙ c.if-is_nameless.false))
    (next_mark f.tokens.now _ m.field-0 m.field-0-0 _ m.ensures m.field-0-is m.field-0-0-is) c.in_ok-new.ensures c.place.ensures refl refl
