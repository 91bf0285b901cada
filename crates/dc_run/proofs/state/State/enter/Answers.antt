use Rattle.std.proofs.Common.{[]}
use Rattle.dc_core.specs.Run.{contract_mode, with_parameters, run}
use Rattle.dc_core.specs.View.{function_view}
use Rattle.dc_world.specs.Sets.{set_view}
use Rattle.dc_run.specs.View.{state_view}
use Rattle.dc_run.proofs.Parts.{part_refused, resumed_last}
use Rattle.dc_run.proofs.Calls.{begun_on, begun_limit}
use Rattle.dc_run.proofs.state.State.enter.Goals as goal

pub returns-in_err-push_parameters-clause-part : goal.returns-in_err-push_parameters-clause-part
returns-in_err-push_parameters-clause-part g c =
    let begun = rw c.new-places.ensures.items at c.in_err-push_parameters.ensures.part in
    part_refused _ (state_view c.push_parameters.new.self) c.from_residual.result _ _ c.from_residual.ensures.0 (begun (λ places t. run contract_mode c.args.f.now.name (set_view c.args.set.now) places (function_view c.args.f.now).body t))

pub returns-then-not-branch-clause-part : goal.returns-then-not-branch-clause-part
returns-then-not-branch-clause-part g c =
    let begun = rw c.new-places.ensures.items at c.in_ok-push_parameters.ensures.part in
    begun_limit (λ choices. with_parameters contract_mode c.args.arguments.now [] (state_view c.args.self.now choices) (λ places t. run contract_mode c.args.f.now.name (set_view c.args.set.now) places (function_view c.args.f.now).body t)) (λ choices. run contract_mode c.args.f.now.name (set_view c.args.set.now) c.push_parameters.new.places.items (function_view c.args.f.now).body (state_view c.push_parameters.new.self choices)) (state_view c.push_parameters.new.self) c.in_ok-push_parameters.field-0 _ _ c.if-not-branch.true (begun (λ places t. run contract_mode c.args.f.now.name (set_view c.args.set.now) places (function_view c.args.f.now).body t))

pub returns-clause-part : goal.returns-clause-part
returns-clause-part g c =
    let begun = rw c.new-places.ensures.items at c.in_ok-push_parameters.ensures.part in
    resumed_last (λ choices. with_parameters contract_mode c.args.arguments.now [] (state_view c.args.self.now choices) (λ places t. run contract_mode c.args.f.now.name (set_view c.args.set.now) places (function_view c.args.f.now).body t)) (λ choices. run contract_mode c.args.f.now.name (set_view c.args.set.now) c.push_parameters.new.places.items (function_view c.args.f.now).body (state_view c.push_parameters.new.self choices)) (state_view c.run.new.self) c.run.result _ _ _
    (begun_on (λ choices. with_parameters contract_mode c.args.arguments.now [] (state_view c.args.self.now choices) (λ places t. run contract_mode c.args.f.now.name (set_view c.args.set.now) places (function_view c.args.f.now).body t)) (λ choices. run contract_mode c.args.f.now.name (set_view c.args.set.now) c.push_parameters.new.places.items (function_view c.args.f.now).body (state_view c.push_parameters.new.self choices)) (state_view c.push_parameters.new.self) c.in_ok-push_parameters.field-0 _ _ c.if-not-branch.false (begun (λ places t. run contract_mode c.args.f.now.name (set_view c.args.set.now) places (function_view c.args.f.now).body t)))
    (rw (c.as_slice.ensures, c.as_slice-2.ensures.value, c.body.ensures) at c.run.ensures.part)
