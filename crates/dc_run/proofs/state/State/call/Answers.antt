use Rattle.std.proofs.Common.{◌∷◌, [], reverse}
use Rattle.dc_core.specs.Event as plain
use Rattle.dc_core.specs.Run.{Did, contract_mode, with_parameters, without_locals, run, finished, leaving}
use Rattle.dc_core.specs.View.{function_view}
use Rattle.dc_world.specs.Sets.{set_view}
use Rattle.dc_run.specs.View.{state_view}
use Rattle.dc_run.proofs.Parts.{part_refused, cut_behind, resumed_front, resumed_cut, resumed_come}
use Rattle.dc_run.proofs.Calls.{front-leaving, come_left}
use Rattle.dc_run.proofs.state.State.call.Goals as goal

pub returns-in_err-flow-clause-part : goal.returns-in_err-flow-clause-part
returns-in_err-flow-clause-part g c =
    let body = rw (c.replace-outer.ensures.after, c.new.ensures.items) at c.in_err-flow.ensures.part in
    part_refused _ (state_view c.call_body.new.self) c.from_residual.result _ _ c.from_residual.ensures.0
    (resumed_cut _ (λ choices. leaving contract_mode (reverse c.args.self.now.locals.items) (finished (function_view c.args.f.now) (with_parameters contract_mode c.args.arguments.now [] (without_locals (state_view c.args.self.now choices)) (λ places t. run contract_mode c.args.f.now.name (set_view c.args.set.now) places (function_view c.args.f.now).body t)))) _ _ _ (resumed_front (λ choices. leaving contract_mode (reverse c.args.self.now.locals.items) (finished (function_view c.args.f.now) (with_parameters contract_mode c.args.arguments.now [] (without_locals (state_view c.args.self.now choices)) (λ places t. run contract_mode c.args.f.now.name (set_view c.args.set.now) places (function_view c.args.f.now).body t)))) (Did (plain.Call 1) ∷ []) _ _ c.tell.ensures)
    (cut_behind (λ choices. finished (function_view c.args.f.now) (with_parameters contract_mode c.args.arguments.now [] (without_locals (state_view c.args.self.now choices)) (λ places t. run contract_mode c.args.f.now.name (set_view c.args.set.now) places (function_view c.args.f.now).body t))) (λ choices. leaving contract_mode (reverse c.args.self.now.locals.items) (finished (function_view c.args.f.now) (with_parameters contract_mode c.args.arguments.now [] (without_locals (state_view c.args.self.now choices)) (λ places t. run contract_mode c.args.f.now.name (set_view c.args.set.now) places (function_view c.args.f.now).body t)))) _ _ (λ choices. front-leaving (reverse c.args.self.now.locals.items) (finished (function_view c.args.f.now) (with_parameters contract_mode c.args.arguments.now [] (without_locals (state_view c.args.self.now choices)) (λ places t. run contract_mode c.args.f.now.name (set_view c.args.set.now) places (function_view c.args.f.now).body t)))) body))

pub returns-clause-part : goal.returns-clause-part
returns-clause-part g c =
    let body = rw (c.replace-outer.ensures.after, c.new.ensures.items) at c.in_ok-flow.ensures.part in
    resumed_come _ (λ choices. leaving contract_mode (reverse c.args.self.now.locals.items) (finished (function_view c.args.f.now) (with_parameters contract_mode c.args.arguments.now [] (without_locals (state_view c.args.self.now choices)) (λ places t. run contract_mode c.args.f.now.name (set_view c.args.set.now) places (function_view c.args.f.now).body t)))) (state_view c.leave.new.self) c.in_ok-flow.flow _ _ _ (resumed_front (λ choices. leaving contract_mode (reverse c.args.self.now.locals.items) (finished (function_view c.args.f.now) (with_parameters contract_mode c.args.arguments.now [] (without_locals (state_view c.args.self.now choices)) (λ places t. run contract_mode c.args.f.now.name (set_view c.args.set.now) places (function_view c.args.f.now).body t)))) (Did (plain.Call 1) ∷ []) _ _ c.tell.ensures)
    (come_left (λ choices. finished (function_view c.args.f.now) (with_parameters contract_mode c.args.arguments.now [] (without_locals (state_view c.args.self.now choices)) (λ places t. run contract_mode c.args.f.now.name (set_view c.args.set.now) places (function_view c.args.f.now).body t))) (reverse c.args.self.now.locals.items) c.in_ok-flow.flow (state_view c.call_body.new.self) (state_view c.leave.new.self) _ _ _ body (rw c.replace-outer.ensures.value at c.leave.ensures.left))
