use Rattle.std.proofs.Common.{Ok, drop, map, ap, ◌∙◌}
use Rattle.dc_syntax.specs.Reading as spec
use Rattle.dc_syntax.specs.ReadingUnits as units
use Rattle.dc_syntax.specs.UnitView.{part_view, clauses_part}
use Rattle.dc_syntax.specs.View.{raw_view}
use Rattle.dc_read_expr.proofs.Results.{reading_some}
use Rattle.dc_read_unit.specs.StatementParts.{closed_tested}
use Rattle.dc_read_unit.proofs.Answered.{parts_some, parting_by}
use Rattle.dc_read_unit.proofs.Steps.{do_condition_is}
use Rattle.dc_read_unit.proofs.statements.Statements.do_behind.Goals as goal

pub returns : goal.returns
returns g c =
    let f = c.args.self.now in
    let ts = f.tokens.now in
    let env = c.args.names.now.names in
    let r = spec.reads f.budget in
    let q = units.reads_part f.budget in
    let all = drop c.args.at ts in
    let t = reading_some ts c.args.next f.budget c.in-Some.test (closed_tested r env (drop c.args.next ts)) c.tested.result c.tested.ensures (c.in_ok-test.was ∙ ap Ok c.in-Some.is) in
    let l = parts_some ts c.in-Some.test.at f.budget clauses_part c.in-Some-2.clauses (units.loop_clauses q env (drop c.in-Some.test.at ts)) c.loop_clauses.result c.loop_clauses.ensures (c.in_ok-clauses.was ∙ ap Ok c.in-Some-2.is) in
    parting_by _ _ _ _ _ _ c.do_end.ensures (do_condition_is r q env all (part_view c.args.body.part) (drop c.args.next ts) (raw_view c.in-Some.test.tree) (drop c.in-Some.test.at ts) (clauses_part (map part_view c.in-Some-2.clauses.parts)) (drop c.in-Some-2.clauses.at ts) t.found l.found)
