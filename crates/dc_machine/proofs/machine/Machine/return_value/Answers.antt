use Rattle.std.proofs.Common.{[], Some, refl, ap, sym, ◌∙◌}
use Rattle.dc_core.specs.View.{term_view}
use Rattle.dc_goto.specs.Acts.{Leaves}
use Rattle.dc_goto.specs.Machine.{proceed, left_body}
use Rattle.dc_machine.specs.Step.{running}
use Rattle.dc_machine.specs.View.{now_view, machine_view}
use Rattle.dc_machine.proofs.Parts.{alone_same}
use Rattle.dc_machine.proofs.Asking.{given-none, given-some}
use Rattle.dc_machine.proofs.Calls.{run_undefined}
use Rattle.dc_machine.proofs.machine.Machine.return_value.Goals as goal

pub returns-in-None : goal.returns-in-None
returns-in-None g c = λ p. rw c.in-None.is (c.leave.ensures p.bodies)

pub returns-in-None-held : goal.returns-in-None-held
returns-in-None-held g c = λ p.
    rw c.in-Some.is
    (run_undefined c.args.name.now _ _ (now_view c.asked.new.self []).world c.undefined.result _
    (ap (proceed p (machine_view p.bodies c.args.self.now [])) (given-none (term_view c.in-Some.term) _ (now_view c.args.self.now.now) (now_view c.asked.new.self) c.args.name.now [] (λ v t. Leaves (Some v) t) c.in_ok-held-in-Some.ensures c.in-None-held.is))
    refl c.undefined.ensures)

pub returns-in-Some-held : goal.returns-in-Some-held
returns-in-Some-held g c = λ p.
    rw c.in-Some.is
    (alone_same running (λ choices. left_body (now_view c.asked.new.self choices) c.in_ok-held-in-Some.held (machine_view p.bodies c.args.self.now choices).frames) _ (machine_view p.bodies c.leave-in-Some-held.new.self) c.leave-in-Some-held.result _ _
    (λ choices.
    ap (proceed p (machine_view p.bodies c.args.self.now choices)) (given-some (term_view c.in-Some.term) _ _ (now_view c.args.self.now.now) (now_view c.asked.new.self) c.args.name.now choices (λ v t. Leaves (Some v) t) c.in_ok-held-in-Some.ensures c.in-Some-held.is)
    ∙ ap (λ o. left_body (now_view c.asked.new.self choices) o (machine_view p.bodies c.args.self.now choices).frames) (sym c.in-Some-held.is))
    (c.leave-in-Some-held.ensures p.bodies))
