use Rattle.std.proofs.Common.{◌≡◌, [], map, Some, None, refl, ap, sym, ◌∙◌}
use Rattle.std.specs.Prelude.{slice_get, option_map, option_and_then}
use Rattle.std.proofs.lemmas.Option.{slice_get-map}
use Rattle.dc_goto.specs.View.{body_view}
use Rattle.dc_goto.specs.Machine.{Going, body_of}
use Rattle.dc_world.specs.declared.report.End.TheVariants as end
use Rattle.dc_machine.specs.Step.{running}
use Rattle.dc_machine.specs.Linked.{linked_view}
use Rattle.dc_machine.specs.View.{machine_view}
use Rattle.dc_machine.proofs.Parts.{nothing_done, run_cut}
use Rattle.std.specs.Prelude.{codes}
use Rattle.dc_goto.specs.Machine.{go_on, steps, first_world}
use Rattle.dc_world.proofs.Drawing.{IsTaken-none}
use Rattle.dc_machine.specs.Index.{first_place}
use Rattle.dc_machine.proofs.Calls.{some-same}
use Rattle.dc_machine.proofs.Indexes.{body-found, place-named}
use Rattle.dc_machine.proofs.Final.{whole, run_named, run_same, start-none, start-some}
use Rattle.dc_machine.proofs.run.run_linked.Goals as goal

pub returns-in_default : goal.returns-in_default
returns-in_default g c =
    let none : body_of (linked_view c.args.p.now).bodies (codes ".start") ≡ None = body-found (linked_view c.args.p.now).bodies (codes ".start") ∙ ap (option_and_then (slice_get (linked_view c.args.p.now).bodies)) (sym (c.requires.bodies (codes ".start")) ∙ sym c.find.ensures ∙ c.in_default.is) in
    run_named (whole (linked_view c.args.p.now) c.args.steps) (end.NoBody (codes ".start")) (first_world (linked_view c.args.p.now) []) c.no_start.result _ _ (IsTaken-none _) c.no_start.ensures refl (start-none (linked_view c.args.p.now) c.args.steps none) refl

pub returns-in_default-at : goal.returns-in_default-at
returns-in_default-at g c =
    let first : first_place 0 (map (λ body. body.name) (linked_view c.args.p.now).bodies) (codes ".start") ≡ Some c.in-Some.number = sym (c.requires.bodies (codes ".start")) ∙ sym c.find.ensures ∙ c.in-Some.is in
    let there : slice_get (linked_view c.args.p.now).bodies c.in-Some.number ≡ None = slice_get-map body_view c.args.p.now.goto.now.bodies c.in-Some.number ∙ ap (option_map body_view) (sym (c.in_default-at.ensures ∙ ap (λ l. slice_get l c.in-Some.number) c.as_slice.ensures)) in
    let none : body_of (linked_view c.args.p.now).bodies (codes ".start") ≡ None = body-found (linked_view c.args.p.now).bodies (codes ".start") ∙ ap (option_and_then (slice_get (linked_view c.args.p.now).bodies)) first ∙ there in
    run_named (whole (linked_view c.args.p.now) c.args.steps) (end.NoBody (codes ".start")) (first_world (linked_view c.args.p.now) []) c.no_start-in_default-at.result _ _ (IsTaken-none _) c.no_start-in_default-at.ensures refl (start-none (linked_view c.args.p.now) c.args.steps none) refl

pub returns-in_err-machine : goal.returns-in_err-machine
returns-in_err-machine g c = run_cut (whole (linked_view c.args.p.now) c.args.steps) c.from_residual.result _ _ _ _ c.from_residual.ensures.0 (nothing_done running (whole (linked_view c.args.p.now) c.args.steps) _ _)

pub returns : goal.returns
returns g c =
    let first : first_place 0 (map (λ body. body.name) (linked_view c.args.p.now).bodies) (codes ".start") ≡ Some c.in-Some.number = sym (c.requires.bodies (codes ".start")) ∙ sym c.find.ensures ∙ c.in-Some.is in
    let there : slice_get (linked_view c.args.p.now).bodies c.in-Some.number ≡ Some (body_view c.in-Some-at.body.now) =
    slice_get-map body_view c.args.p.now.goto.now.bodies c.in-Some.number ∙ ap (option_map body_view) (sym (c.in-Some-at.ensures ∙ ap (λ l. slice_get l c.in-Some.number) c.as_slice.ensures)) in
    let found : body_of (linked_view c.args.p.now).bodies (codes ".start") ≡ Some (body_view c.in-Some-at.body.now) = body-found (linked_view c.args.p.now).bodies (codes ".start") ∙ ap (option_and_then (slice_get (linked_view c.args.p.now).bodies)) first ∙ there in
    let names : Some c.in-Some-at.body.now.name ≡ Some (codes ".start") =
    sym (slice_get-map (λ body. body.name) (linked_view c.args.p.now).bodies c.in-Some.number ∙ ap (option_map (λ body. body.name)) there) ∙ place-named (map (λ body. body.name) (linked_view c.args.p.now).bodies) (codes ".start") c.in-Some.number first in
    run_same (λ choices. go_on (Going [] (machine_view (linked_view c.args.p.now).bodies c.in_ok-machine.machine choices)) (steps (linked_view c.args.p.now) c.args.steps)) (whole (linked_view c.args.p.now) c.args.steps) c.run.result _ _ _ _
    (λ choices. ap (λ r. go_on r (steps (linked_view c.args.p.now) c.args.steps)) (start-some (linked_view c.args.p.now) choices c.in-Some.number (body_view c.in-Some-at.body.now) (machine_view (linked_view c.args.p.now).bodies c.in_ok-machine.machine choices) found there (some-same _ _ names) (c.in_ok-machine.ensures (linked_view c.args.p.now).bodies choices)))
    c.run.ensures
