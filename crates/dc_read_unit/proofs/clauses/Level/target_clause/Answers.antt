use Rattle.std.proofs.Common.{◌+◌, Ok, drop, refl, ap, ◌∙◌}
use Rattle.dc_syntax.specs.Reading as spec
use Rattle.dc_syntax.specs.UnitView.{groups_part}
use Rattle.dc_read_unit.specs.ClauseParts.{closed_groups}
use Rattle.dc_read_unit.proofs.Answered.{parts_some}
use Rattle.dc_read_unit.proofs.Grouped.{grouped_none, grouped_read}
use Rattle.dc_read_unit.proofs.clauses.Level.target_clause.Goals as goal

pub returns-in_default : goal.returns-in_default
returns-in_default c =
    let f = c.args.self.now in
    grouped_none (spec.reads f.budget) c.args.names.now.names f.tokens.now c.args.at c.behind-next.result f.budget c.args.kind c.closed_groups.result c.behind-next.ensures c.closed_groups.ensures (c.in_ok-groups.was ∙ ap Ok c.in_default.is)

pub returns : goal.returns
returns c =
    let f = c.args.self.now in
    let env = c.args.names.now.names in
    let next = c.behind-next.result in
    grouped_read (spec.reads f.budget) env f.tokens.now c.args.at next f.budget c.args.kind c.in-Some.groups c.place-place.result _ c.behind-next.ensures
    (parts_some f.tokens.now (next + 1) f.budget groups_part c.in-Some.groups (closed_groups (spec.reads f.budget) env (drop next f.tokens.now)) c.closed_groups.result c.closed_groups.ensures (c.in_ok-groups.was ∙ ap Ok c.in-Some.is))
    c.in_ok-target_clause.ensures c.place-place.ensures refl refl
