use Rattle.std.proofs.Common.{Ok, drop, ap, ◌∙◌}
use Rattle.dc_syntax.specs.declared.mark.Mark.TheVariants.{Semicolon, RightParen}
use Rattle.dc_syntax.specs.Tokens.{Marked}
use Rattle.dc_syntax.specs.Reading as spec
use Rattle.dc_syntax.specs.ReadingUnits as units
use Rattle.dc_syntax.specs.UnitView.{part_view}
use Rattle.dc_read_unit.specs.StatementParts.{closed_optional}
use Rattle.dc_read_unit.proofs.Answered.{part_some, part_none, parting_by}
use Rattle.dc_read_unit.proofs.Steps.{for_condition_none, for_condition_is}
use Rattle.dc_read_unit.proofs.statements.Statements.for_condition.Goals as goal

pub returns-in_default-2 : goal.returns-in_default-2
returns-in_default-2 g c =
    let f = c.args.self.now in
    let ts = f.tokens.now in
    let env = c.args.names.now.names in
    let r = spec.reads f.budget in
    let q = units.reads_part f.budget in
    let all = drop c.args.at ts in
    let p = part_view c.args.first.part in
    let t = part_some ts c.args.first.at f.budget c.in-Some.test (closed_optional r env (Marked Semicolon) (drop c.args.first.at ts)) c.step_up_to.result c.step_up_to.ensures (c.in_ok-test.was ∙ ap Ok c.in-Some.is) in
    let n = part_none ts c.in-Some.test.at f.budget (closed_optional r env (Marked RightParen) (drop c.in-Some.test.at ts)) c.step_up_to-2.result c.step_up_to-2.ensures (c.in_ok-step.was ∙ ap Ok c.in_default-2.is) in
    for_condition_none r q env all p (drop c.args.first.at ts) (part_view c.in-Some.test.part) (drop c.in-Some.test.at ts) t.found n

pub returns : goal.returns
returns g c =
    let f = c.args.self.now in
    let ts = f.tokens.now in
    let env = c.args.names.now.names in
    let r = spec.reads f.budget in
    let q = units.reads_part f.budget in
    let all = drop c.args.at ts in
    let p = part_view c.args.first.part in
    let t = part_some ts c.args.first.at f.budget c.in-Some.test (closed_optional r env (Marked Semicolon) (drop c.args.first.at ts)) c.step_up_to.result c.step_up_to.ensures (c.in_ok-test.was ∙ ap Ok c.in-Some.is) in
    let s = part_some ts c.in-Some.test.at f.budget c.in-Some-2.step (closed_optional r env (Marked RightParen) (drop c.in-Some.test.at ts)) c.step_up_to-2.result c.step_up_to-2.ensures (c.in_ok-step.was ∙ ap Ok c.in-Some-2.is) in
    parting_by _ _ _ _ _ _ c.for_body.ensures (for_condition_is r q env all p (drop c.args.first.at ts) (part_view c.in-Some.test.part) (drop c.in-Some.test.at ts) (part_view c.in-Some-2.step.part) (drop c.in-Some-2.step.at ts) t.found s.found)
