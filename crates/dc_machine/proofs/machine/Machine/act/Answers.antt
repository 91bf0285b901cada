use Rattle.std.proofs.Common.{◌≡◌, suc, ◌+◌, arith}
use Rattle.dc_goto.specs.View.{instr_view}
use Rattle.dc_goto.specs.Machine.{act}
use Rattle.dc_machine.specs.Step.{running}
use Rattle.dc_machine.specs.Linked.{linked_view}
use Rattle.dc_machine.specs.View.{now_view, machine_view}
use Rattle.dc_machine.proofs.Parts.{step_cut}
use Rattle.dc_world.specs.Report.{end_view}
use Rattle.dc_machine.proofs.Parts.{act-goes, act-ends, act-cut, placed-at}
use Rattle.dc_machine.proofs.machine.Machine.act.Goals as goal

pub returns-in_err-end : goal.returns-in_err-end
returns-in_err-end g c = λ straight.
    step_cut running _ _ c.from_residual.result _ _ _ _ c.from_residual.ensures.0 (act-cut (linked_view c.args.p.now) (λ choices. (machine_view (linked_view c.args.p.now).bodies c.args.self.now choices)) (λ choices. act (linked_view c.args.p.now) c.args.name.now (instr_view c.args.instr.now) (now_view c.args.self.now.now choices)) _ _ _ _ (c.in_err-end.ensures straight))

pub returns-in-None : goal.returns-in-None
returns-in-None g c = λ straight.
    let next : c.args.self.now.place + 1 ≡ suc c.args.self.now.place = omega arith in
    act-goes (linked_view c.args.p.now) (λ choices. (machine_view (linked_view c.args.p.now).bodies c.args.self.now choices)) (λ choices. act (linked_view c.args.p.now) c.args.name.now (instr_view c.args.instr.now) (now_view c.args.self.now.now choices)) (now_view c.act.new.self) _ _ _ _ _
    (λ choices rest. placed-at (machine_view (linked_view c.args.p.now).bodies c.args.self.now choices) (c.args.self.now.place + 1) (now_view c.act.new.self rest) next)
    (rw c.in-None.is at (c.in_ok-end.ensures straight))

pub returns-in-Some : goal.returns-in-Some
returns-in-Some g c = λ straight.
    act-ends (linked_view c.args.p.now) (λ choices. (machine_view (linked_view c.args.p.now).bodies c.args.self.now choices)) (λ choices. act (linked_view c.args.p.now) c.args.name.now (instr_view c.args.instr.now) (now_view c.args.self.now.now choices)) (end_view c.in-Some.end) _ _ _ _ (rw c.in-Some.is at (c.in_ok-end.ensures straight))
