use Rattle.std.proofs.Common.{Ok, drop, sym, ap, ◌∙◌}
use Rattle.dc_syntax.specs.Reading as spec
use Rattle.dc_syntax.specs.View.{raw_view}
use Rattle.dc_read_expr.proofs.Results.{reading_some}
use Rattle.dc_read_unit.proofs.Answered.{parting_by}
use Rattle.dc_read_unit.proofs.Groups.{group_by_colon}
use Rattle.dc_read_unit.proofs.clauses.Level.group.Goals as goal

pub returns-then-begins_colon : goal.returns-then-begins_colon
returns-then-begins_colon c =
    let f = c.args.self.now in
    let env = c.args.names.now.names in
    let first = c.in-Some.first in
    let is = reading_some f.tokens.now c.args.at f.budget first (spec.reads f.budget (spec.Upto 15) env (drop c.args.at f.tokens.now)) c.read_upto.result c.read_upto.ensures (c.in_ok-first.was ∙ ap Ok c.in-Some.is) in
    parting_by _ _ _ _ _ _ c.group_if.ensures (group_by_colon (spec.reads f.budget) env (drop c.args.at f.tokens.now) (raw_view first.tree) f.tokens.now first.at is.found (sym c.begins_colon.ensures ∙ c.if-begins_colon.true))
