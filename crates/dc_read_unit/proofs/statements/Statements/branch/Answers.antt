use Rattle.std.proofs.Common.{◌+◌, Ok, drop, ap, ◌∙◌}
use Rattle.dc_syntax.specs.Reading as spec
use Rattle.dc_syntax.specs.ReadingUnits as units
use Rattle.dc_syntax.specs.UnitView.{part_view}
use Rattle.dc_syntax.specs.View.{raw_view}
use Rattle.dc_read_expr.proofs.Results.{read_from}
use Rattle.dc_read_unit.specs.StatementParts.{closed_tested}
use Rattle.dc_read_unit.proofs.Answered.{part_some, parting_by}
use Rattle.dc_read_unit.proofs.Steps.{branch_is}
use Rattle.dc_read_unit.proofs.statements.Statements.branch.Goals as goal

pub returns : goal.returns
returns g c =
    let f = c.args.self.now in
    let ts = f.tokens.now in
    let env = c.args.names.now.names in
    let r = spec.reads f.budget in
    let q = units.reads_part f.budget in
    let all = drop c.args.at ts in
    let t = read_from ts (c.args.at + 1) c.behind-next.result f.budget c.in-Some.test (closed_tested r env) c.tested.result c.tested.ensures c.behind-next.ensures (c.in_ok-test.was ∙ ap Ok c.in-Some.is) in
    let a = part_some ts c.in-Some.test.at f.budget c.in-Some-2.first (q units.StatementOf env (drop c.in-Some.test.at ts)) c.below.result c.below.ensures (c.in_ok-first.was ∙ ap Ok c.in-Some-2.is) in
    parting_by _ _ _ _ _ _ c.branch_behind.ensures (branch_is r q env all (drop (c.args.at + 1) ts) (raw_view c.in-Some.test.tree) (drop c.in-Some.test.at ts) (part_view c.in-Some-2.first.part) (drop c.in-Some-2.first.at ts) t.found a.found)
