use Rattle.std.proofs.Common.{Ok, drop, refl, sym, ap, ◌∙◌}
use Rattle.dc_syntax.specs.Tokens.{Marked}
use Rattle.dc_syntax.specs.Reading as spec
use Rattle.dc_read_expr.proofs.Eating.{within_begins}
use Rattle.dc_read_expr.proofs.Results.{reading_some, reading_none}
use Rattle.dc_read_unit.proofs.Steps.{left_away, no_step, open_step, closed_step}
use Rattle.dc_read_unit.proofs.statements.Statements.step_up_to.Goals as goal

pub behind-requires : goal.behind-requires
behind-requires g c = record { within = within_begins (Marked c.args.mark) _ _ (sym c.begins_mark.ensures ∙ c.if-begins_mark.true) }

pub returns-then-begins_mark : goal.returns-then-begins_mark
returns-then-begins_mark g c =
    let f = c.args.self.now in
    left_away (spec.reads f.budget) c.args.names.now.names (Marked c.args.mark) f.tokens.now c.args.at f.budget _ (sym c.begins_mark.ensures ∙ c.if-begins_mark.true) c.in_ok-new.ensures refl c.behind.ensures

pub returns-in_default : goal.returns-in_default
returns-in_default g c =
    let f = c.args.self.now in
    let r = spec.reads f.budget in
    let env = c.args.names.now.names in
    let ts = drop c.args.at f.tokens.now in
    no_step r env (Marked c.args.mark) ts (sym c.begins_mark.ensures ∙ c.if-begins_mark.false)
    (reading_none f.tokens.now c.args.at f.budget (r (spec.Upto 16) env ts) c.read_upto.result c.read_upto.ensures (c.in_ok-read.was ∙ ap Ok c.in_default.is))

pub returns-then-not-begins_mark : goal.returns-then-not-begins_mark
returns-then-not-begins_mark g c =
    let f = c.args.self.now in
    let r = spec.reads f.budget in
    let env = c.args.names.now.names in
    let q = reading_some f.tokens.now c.args.at f.budget c.in-Some.read (r (spec.Upto 16) env (drop c.args.at f.tokens.now)) c.read_upto.result c.read_upto.ensures (c.in_ok-read.was ∙ ap Ok c.in-Some.is) in
    open_step r env (Marked c.args.mark) f.tokens.now c.args.at f.budget c.in-Some.read (sym c.begins_mark.ensures ∙ c.if-begins_mark.false) q (sym c.begins_mark-2.ensures ∙ c.if-not-begins_mark.true)

pub behind-end-requires : goal.behind-end-requires
behind-end-requires g c = record { within = within_begins (Marked c.args.mark) _ _ (sym c.begins_mark-2.ensures ∙ c.if-not-begins_mark.false) }

pub returns : goal.returns
returns g c =
    let f = c.args.self.now in
    let r = spec.reads f.budget in
    let env = c.args.names.now.names in
    let q = reading_some f.tokens.now c.args.at f.budget c.in-Some.read (r (spec.Upto 16) env (drop c.args.at f.tokens.now)) c.read_upto.result c.read_upto.ensures (c.in_ok-read.was ∙ ap Ok c.in-Some.is) in
    closed_step r env (Marked c.args.mark) f.tokens.now c.args.at f.budget c.in-Some.read (sym c.begins_mark.ensures ∙ c.if-begins_mark.false) q _ (sym c.begins_mark-2.ensures ∙ c.if-not-begins_mark.false)
    c.in_ok-new-2.ensures refl c.behind-end.ensures
