use Rattle.std.proofs.Common.{rules, ◌≡◌, [], map, refl, ap, ◌∙◌, to_z, of_z}
use mir.Syntax.{w128}
use Rattle.std.specs.Prelude.{option_map}
use Rattle.dc_core.specs.View.{term_view}
use Rattle.dc_goto.specs.Acts.{all_given}
use Rattle.dc_goto.specs.Machine.{proceed}
use Rattle.dc_machine.specs.Step.{running}
use Rattle.dc_machine.specs.Linked.{linked_view}
use Rattle.dc_machine.specs.View.{now_view, machine_view}
use Rattle.dc_machine.proofs.Parts.{alone_same}
use Rattle.dc_machine.proofs.Asking.{given-none, given-some, values-none, values-some}
use Rattle.dc_machine.proofs.Calls.{run_undefined}
use Rattle.dc_machine.proofs.Going.{then_enter_at}
use Rattle.dc_machine.proofs.machine.Machine.call_through.Goals as goal

pub returns-in_default : goal.returns-in_default
returns-in_default g c =
    run_undefined c.args.name.now _ _ (now_view c.asked.new.self []).world c.undefined.result _
    (ap (proceed (linked_view c.args.p.now) (machine_view (linked_view c.args.p.now).bodies c.args.self.now []))
    (given-none (term_view c.args.pointer.now) _ (now_view c.args.self.now.now) (now_view c.asked.new.self) c.args.name.now [] (λ q t. all_given c.args.name.now t (map term_view c.args.arguments.now) (then_enter_at (linked_view c.args.p.now) c.args.name.now c.args.register c.args.result_kind c.args.params.now q)) c.in_ok-pointer.ensures c.in_default.is))
    refl c.undefined.ensures

pub returns-in-None : goal.returns-in-None
returns-in-None g c =
    run_undefined c.args.name.now _ _ (now_view c.all_given.new.self []).world c.undefined-in-None.result _
    (ap (proceed (linked_view c.args.p.now) (machine_view (linked_view c.args.p.now).bodies c.args.self.now []))
    (given-some (term_view c.args.pointer.now) _ c.in-Some.pointer (now_view c.args.self.now.now) (now_view c.asked.new.self) c.args.name.now [] (λ q t. all_given c.args.name.now t (map term_view c.args.arguments.now) (then_enter_at (linked_view c.args.p.now) c.args.name.now c.args.register c.args.result_kind c.args.params.now q)) c.in_ok-pointer.ensures c.in-Some.is
    ∙ values-none (map term_view c.args.arguments.now) _ (now_view c.asked.new.self) (now_view c.all_given.new.self) c.args.name.now [] (then_enter_at (linked_view c.args.p.now) c.args.name.now c.args.register c.args.result_kind c.args.params.now c.in-Some.pointer) c.in_ok-all_given.ensures (ap (option_map (λ v. v.items)) c.in-None.is)))
    refl c.undefined-in-None.ensures

pub returns-in-Some-2 : goal.returns-in-Some-2
returns-in-Some-2 g c =
    let pointer : to_z w128 (of_z w128 c.in-Some.pointer) ≡ c.in-Some.pointer = search rules in
    let s = values-some (map term_view c.args.arguments.now) _ c.in-Some-2.values.items (now_view c.asked.new.self) (now_view c.all_given.new.self) c.in_ok-all_given.ensures (ap (option_map (λ v. v.items)) c.in-Some-2.is) in
    alone_same running _ _ (machine_view (linked_view c.args.p.now).bodies c.call_pointer.new.self) c.call_pointer.result _ _
    (λ choices.
    ap (proceed (linked_view c.args.p.now) (machine_view (linked_view c.args.p.now).bodies c.args.self.now choices))
    (given-some (term_view c.args.pointer.now) _ c.in-Some.pointer (now_view c.args.self.now.now) (now_view c.asked.new.self) c.args.name.now choices (λ q t. all_given c.args.name.now t (map term_view c.args.arguments.now) (then_enter_at (linked_view c.args.p.now) c.args.name.now c.args.register c.args.result_kind c.args.params.now q)) c.in_ok-pointer.ensures c.in-Some.is
    ∙ s.come c.args.name.now choices (then_enter_at (linked_view c.args.p.now) c.args.name.now c.args.register c.args.result_kind c.args.params.now c.in-Some.pointer)))
    (rw (c.bits-pointer.ensures.value, pointer) at (c.call_pointer.ensures s.values s.same))
