use Rattle.std.proofs.Common.{◌+◌, ◌-◌, [], refl, arith}
use Rattle.dc_goto.specs.Machine.{Going}
use Rattle.dc_machine.specs.Linked.{linked_view}
use Rattle.dc_machine.specs.View.{machine_view}
use Rattle.dc_world.specs.Report.{end_view}
use Rattle.dc_machine.proofs.Parts.{after_steps, run-none, run-more, run-end, run-out, run-cut, run_cut}
use Rattle.dc_machine.proofs.machine.Machine.run.Goals as goal

pub loop-step-init : goal.loop-step-init
loop-step-init g c = run-none (linked_view c.args.p.now) (λ choices. (machine_view (linked_view c.args.p.now).bodies c.args.self.now choices)) _ _

pub returns-in_err-end : goal.returns-in_err-end
returns-in_err-end g c =
    run_cut (after_steps (linked_view c.args.p.now) (λ choices. Going [] (machine_view (linked_view c.args.p.now).bodies c.args.self.now choices)) c.args.steps) c.from_residual.result _ _ _ _ c.from_residual.ensures.0
    (run-cut (linked_view c.args.p.now) (λ choices. Going [] (machine_view (linked_view c.args.p.now).bodies c.args.self.now choices)) c.loop-step._step c.args.steps (c.args.steps - c.loop-step._step - 1) (machine_view (linked_view c.args.p.now).bodies c.loop-step.self) _ _ _ _ _ _ (omega arith) c.loop-step.invariant c.in_err-end.ensures)

pub returns-in-Some : goal.returns-in-Some
returns-in-Some g c =
    run-end (linked_view c.args.p.now) (λ choices. Going [] (machine_view (linked_view c.args.p.now).bodies c.args.self.now choices)) c.loop-step._step c.args.steps (c.args.steps - c.loop-step._step - 1) (machine_view (linked_view c.args.p.now).bodies c.loop-step.self) (end_view c.in-Some.end) _ _ _ _ _ _ (omega arith) c.loop-step.invariant (rw c.in-Some.is at c.in_ok-end.ensures)

pub loop-step-preserved : goal.loop-step-preserved
loop-step-preserved g c =
    run-more (linked_view c.args.p.now) (λ choices. Going [] (machine_view (linked_view c.args.p.now).bodies c.args.self.now choices)) c.loop-step._step (c.loop-step._step + 1) (machine_view (linked_view c.args.p.now).bodies c.loop-step.self) (machine_view (linked_view c.args.p.now).bodies c.step.new.self) _ _ _ _ _ _ refl c.loop-step.invariant (rw c.in_default.is at c.in_ok-end.ensures)

pub returns : goal.returns
returns g c =
    run-out (linked_view c.args.p.now) (λ choices. Going [] (machine_view (linked_view c.args.p.now).bodies c.args.self.now choices)) c.loop-step._step c.args.steps (machine_view (linked_view c.args.p.now).bodies c.loop-step.self) _ _ _ _ (omega arith) (λ choices. refl) c.loop-step.invariant
