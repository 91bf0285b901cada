use Rattle.std.proofs.Common.{[], length, map, refl, ap}
use Rattle.std.specs.Prelude.{nat_lt, option_map}
use Rattle.dc_core.specs.View.{term_view}
use Rattle.dc_goto.specs.Acts.{Enters}
use Rattle.dc_goto.specs.Machine.{entered, proceed, depth_limit}
use Rattle.dc_machine.specs.Step.{running}
use Rattle.dc_machine.specs.Linked.{linked_view}
use Rattle.dc_machine.specs.View.{now_view, machine_view}
use Rattle.dc_machine.proofs.Parts.{alone_same}
use Rattle.dc_machine.proofs.Asking.{values-none, values-some}
use Rattle.dc_machine.proofs.Calls.{run_undefined}
use Rattle.dc_machine.proofs.machine.Machine.call.Goals as goal

pub returns-in-None : goal.returns-in-None
returns-in-None g c =
    run_undefined c.args.name.now _ _ (now_view c.all_given.new.self []).world c.undefined.result _
    (ap (proceed (linked_view c.args.p.now) (machine_view (linked_view c.args.p.now).bodies c.args.self.now []))
    (values-none (map term_view c.args.arguments.now) _ (now_view c.args.self.now.now) (now_view c.all_given.new.self) c.args.name.now [] (λ values t. Enters c.args.register c.args.callee.now values t) c.in_ok-all_given.ensures (ap (option_map (λ v. v.items)) c.in-None.is)))
    refl c.undefined.ensures

pub returns-in-Some : goal.returns-in-Some
returns-in-Some g c =
    let s = values-some (map term_view c.args.arguments.now) _ c.in-Some.values.items (now_view c.args.self.now.now) (now_view c.all_given.new.self) c.in_ok-all_given.ensures (ap (option_map (λ v. v.items)) c.in-Some.is) in
    alone_same running (λ choices. entered (linked_view c.args.p.now) (machine_view (linked_view c.args.p.now).bodies c.args.self.now choices) (now_view c.all_given.new.self choices) c.args.register c.args.callee.now s.values (nat_lt (length (machine_view (linked_view c.args.p.now).bodies c.args.self.now choices).frames) depth_limit)) _
    (machine_view (linked_view c.args.p.now).bodies c.call_values.new.self) c.call_values.result _ _
    (λ choices. ap (proceed (linked_view c.args.p.now) (machine_view (linked_view c.args.p.now).bodies c.args.self.now choices)) (s.come c.args.name.now choices (λ values t. Enters c.args.register c.args.callee.now values t)))
    (c.call_values.ensures s.values s.same)
