use Rattle.std.proofs.Common.{◌≡◌, [], map, Some, None, refl, ap, sym, ◌∙◌}
use Rattle.std.specs.Prelude.{slice_get, option_map, option_and_then}
use Rattle.std.proofs.lemmas.Option.{slice_get-map}
use Rattle.dc_goto.specs.View.{body_view}
use Rattle.dc_goto.specs.Machine.{body_of}
use Rattle.dc_world.specs.declared.report.End.TheVariants as end
use Rattle.dc_machine.specs.Step.{running}
use Rattle.dc_machine.specs.Linked.{linked_view}
use Rattle.dc_machine.specs.View.{now_view, machine_view}
use Rattle.dc_machine.proofs.Parts.{ends_named}
use Rattle.dc_machine.specs.Index.{first_place}
use Rattle.dc_machine.proofs.Calls.{entered-none, entered-some, entered-as, some-same}
use Rattle.dc_machine.proofs.Indexes.{body-found, place-named}
use Rattle.dc_machine.proofs.machine.Machine.enter_named.Goals as goal

pub returns-in_default : goal.returns-in_default
returns-in_default c = λ values h e.
    let none : body_of (linked_view c.args.p.now).bodies c.args.callee.now ≡ None =
    body-found (linked_view c.args.p.now).bodies c.args.callee.now ∙ ap (option_and_then (slice_get (linked_view c.args.p.now).bodies)) (sym (c.requires.linked.bodies c.args.callee.now) ∙ sym c.find.ensures ∙ c.in_default.is) in
    ends_named running _ _ (end.NoBody c.args.callee.now) (now_view c.args.self.now.now []).world c.no_body.result h c.no_body.ensures refl
    (entered-none (machine_view (linked_view c.args.p.now).bodies c.args.self.now []) (now_view c.args.self.now.now []) c.args.register c.args.callee.now values (body_of (linked_view c.args.p.now).bodies c.args.callee.now) none) refl

pub returns-in_default-at : goal.returns-in_default-at
returns-in_default-at c = λ values h e.
    let first : first_place 0 (map (λ body. body.name) (linked_view c.args.p.now).bodies) c.args.callee.now ≡ Some c.in-Some.number = sym (c.requires.linked.bodies c.args.callee.now) ∙ sym c.find.ensures ∙ c.in-Some.is in
    let there : slice_get (linked_view c.args.p.now).bodies c.in-Some.number ≡ None = slice_get-map body_view c.args.p.now.goto.now.bodies c.in-Some.number ∙ ap (option_map body_view) (sym (c.in_default-at.ensures ∙ ap (λ l. slice_get l c.in-Some.number) c.as_slice.ensures)) in
    let none : body_of (linked_view c.args.p.now).bodies c.args.callee.now ≡ None = body-found (linked_view c.args.p.now).bodies c.args.callee.now ∙ ap (option_and_then (slice_get (linked_view c.args.p.now).bodies)) first ∙ there in
    ends_named running _ _ (end.NoBody c.args.callee.now) (now_view c.args.self.now.now []).world c.no_body-in_default-at.result h c.no_body-in_default-at.ensures refl
    (entered-none (machine_view (linked_view c.args.p.now).bodies c.args.self.now []) (now_view c.args.self.now.now []) c.args.register c.args.callee.now values (body_of (linked_view c.args.p.now).bodies c.args.callee.now) none) refl

pub returns : goal.returns
returns c = λ values h e.
    let first : first_place 0 (map (λ body. body.name) (linked_view c.args.p.now).bodies) c.args.callee.now ≡ Some c.in-Some.number = sym (c.requires.linked.bodies c.args.callee.now) ∙ sym c.find.ensures ∙ c.in-Some.is in
    let there : slice_get (linked_view c.args.p.now).bodies c.in-Some.number ≡ Some (body_view c.in-Some-at.body.now) =
    slice_get-map body_view c.args.p.now.goto.now.bodies c.in-Some.number ∙ ap (option_map body_view) (sym (c.in-Some-at.ensures ∙ ap (λ l. slice_get l c.in-Some.number) c.as_slice.ensures)) in
    let whole : body_of (linked_view c.args.p.now).bodies c.args.callee.now ≡ Some (body_view c.in-Some-at.body.now) = body-found (linked_view c.args.p.now).bodies c.args.callee.now ∙ ap (option_and_then (slice_get (linked_view c.args.p.now).bodies)) first ∙ there in
    let names : Some c.in-Some-at.body.now.name ≡ Some c.args.callee.now =
    sym (slice_get-map (λ body. body.name) (linked_view c.args.p.now).bodies c.in-Some.number ∙ ap (option_map (λ body. body.name)) there) ∙ place-named (map (λ body. body.name) (linked_view c.args.p.now).bodies) c.args.callee.now c.in-Some.number first in
    record {
      notes = [];
      goes = λ rest.
          entered-some (machine_view (linked_view c.args.p.now).bodies c.args.self.now rest) (now_view c.args.self.now.now rest) c.args.register c.args.callee.now values (body_of (linked_view c.args.p.now).bodies c.args.callee.now) (body_view c.in-Some-at.body.now) whole
          ∙ entered-as (machine_view (linked_view c.args.p.now).bodies c.args.self.now rest) (machine_view (linked_view c.args.p.now).bodies c.enter.new.self rest) (now_view c.args.self.now.now rest) c.args.register c.args.callee.now values (linked_view c.args.p.now).bodies c.in-Some.number (body_view c.in-Some-at.body.now) there (some-same _ _ names) (c.in_ok-enter.ensures (linked_view c.args.p.now).bodies values rest e);
      heard = refl;
    }
