use Rattle.std.proofs.Common.{◌≡◌, [], map, reverse, Some, None, refl, ap, sym, ◌∙◌}
use Rattle.std.specs.Prelude.{slice_get, option_map}
use Rattle.std.proofs.lemmas.Option.{slice_get-map}
use Rattle.dc_goto.specs.View.{body_view, instr_view}
use Rattle.dc_goto.specs.Machine.{act, proceed}
use Rattle.dc_world.specs.declared.report.End.TheVariants as end
use Rattle.dc_machine.specs.Step.{running}
use Rattle.dc_machine.specs.Linked.{linked_view}
use Rattle.dc_machine.specs.View.{now_view, machine_view, frame_view}
use Rattle.dc_machine.proofs.Parts.{ends_named, alone-step}
use Rattle.dc_goto.specs.Machine.{step}
use Rattle.dc_machine.proofs.Parts.{step_same}
use Rattle.dc_machine.proofs.Calls.{step-bodiless, step-past, step-at}
use Rattle.dc_machine.proofs.machine.Machine.step.Goals as goal

pub returns-in_default : goal.returns-in_default
returns-in_default g c =
    let none : slice_get (linked_view c.args.p.now).bodies c.args.self.now.body ≡ None = slice_get-map body_view c.args.p.now.goto.now.bodies c.args.self.now.body ∙ ap (option_map body_view) (sym (c.in_default.ensures ∙ ap (λ l. slice_get l c.args.self.now.body) c.as_slice.ensures)) in
    alone-step running _ _ c.undefined.result _ _ _
    (ends_named running (λ choices. step (linked_view c.args.p.now) (machine_view (linked_view c.args.p.now).bodies c.args.self.now choices)) (machine_view (linked_view c.args.p.now).bodies c.args.self.now) (end.Undefined []) (now_view c.args.self.now.now []).world c.undefined.result _ c.undefined.ensures refl
    (step-bodiless (linked_view c.args.p.now) (linked_view c.args.p.now).bodies c.args.self.now.body c.args.self.now.place (reverse (map (frame_view (linked_view c.args.p.now).bodies) c.args.self.now.frames.items)) (now_view c.args.self.now.now []) none) refl)

pub returns-in-None : goal.returns-in-None
returns-in-None g c =
    let there : slice_get (linked_view c.args.p.now).bodies c.args.self.now.body ≡ Some (body_view c.in-Some.body.now) = slice_get-map body_view c.args.p.now.goto.now.bodies c.args.self.now.body ∙ ap (option_map body_view) (sym (c.in-Some.ensures ∙ ap (λ l. slice_get l c.args.self.now.body) c.as_slice.ensures)) in
    let past : slice_get (map instr_view c.in-Some.body.now.code) c.args.self.now.place ≡ None = slice_get-map instr_view c.in-Some.body.now.code c.args.self.now.place ∙ ap (option_map instr_view) (sym (c.in-None.ensures ∙ ap (λ l. slice_get l c.args.self.now.place) c.as_slice-2.ensures)) in
    alone-step running _ _ c.undefined-in-None.result _ _ _
    (ends_named running (λ choices. step (linked_view c.args.p.now) (machine_view (linked_view c.args.p.now).bodies c.args.self.now choices)) (machine_view (linked_view c.args.p.now).bodies c.args.self.now) (end.Undefined c.in-Some.body.now.name) (now_view c.args.self.now.now []).world c.undefined-in-None.result _ (rw c.as_slice-in-None.ensures at c.undefined-in-None.ensures) refl
    (step-past (linked_view c.args.p.now) (linked_view c.args.p.now).bodies c.args.self.now.body c.args.self.now.place (reverse (map (frame_view (linked_view c.args.p.now).bodies) c.args.self.now.frames.items)) (now_view c.args.self.now.now []) (body_view c.in-Some.body.now) there past) refl)

pub returns-in-Some-at : goal.returns-in-Some-at
returns-in-Some-at g c =
    let there : slice_get (linked_view c.args.p.now).bodies c.args.self.now.body ≡ Some (body_view c.in-Some.body.now) = slice_get-map body_view c.args.p.now.goto.now.bodies c.args.self.now.body ∙ ap (option_map body_view) (sym (c.in-Some.ensures ∙ ap (λ l. slice_get l c.args.self.now.body) c.as_slice.ensures)) in
    let here : slice_get (map instr_view c.in-Some.body.now.code) c.args.self.now.place ≡ Some (instr_view c.in-Some-at.instr.now) = slice_get-map instr_view c.in-Some.body.now.code c.args.self.now.place ∙ ap (option_map instr_view) (sym (c.in-Some-at.ensures ∙ ap (λ l. slice_get l c.args.self.now.place) c.as_slice-2.ensures)) in
    step_same running (λ choices. proceed (linked_view c.args.p.now) (machine_view (linked_view c.args.p.now).bodies c.args.self.now choices) (act (linked_view c.args.p.now) c.as_slice-in-Some-at.result.now (instr_view c.in-Some-at.instr.now) (now_view c.args.self.now.now choices))) (λ choices. step (linked_view c.args.p.now) (machine_view (linked_view c.args.p.now).bodies c.args.self.now choices)) (machine_view (linked_view c.args.p.now).bodies c.perform.new.self) c.perform.result _ _ _ _
    (λ choices.
    step-at (linked_view c.args.p.now) (linked_view c.args.p.now).bodies c.args.self.now.body c.args.self.now.place (reverse (map (frame_view (linked_view c.args.p.now).bodies) c.args.self.now.frames.items)) (now_view c.args.self.now.now choices) (body_view c.in-Some.body.now) (instr_view c.in-Some-at.instr.now) there here
    ∙ ap (λ n. proceed (linked_view c.args.p.now) (machine_view (linked_view c.args.p.now).bodies c.args.self.now choices) (act (linked_view c.args.p.now) n (instr_view c.in-Some-at.instr.now) (now_view c.args.self.now.now choices))) (sym c.as_slice-in-Some-at.ensures))
    c.perform.ensures
