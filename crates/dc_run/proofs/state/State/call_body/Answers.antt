use Rattle.std.proofs.Common.{[]}
use Rattle.dc_core.specs.Run.{contract_mode, with_parameters, run}
use Rattle.dc_core.specs.View.{function_view}
use Rattle.dc_world.specs.Sets.{set_view}
use Rattle.dc_run.specs.View.{state_view}
use Rattle.dc_run.proofs.Parts.{part_refused, cut_behind}
use Rattle.dc_run.proofs.Calls.{front-finished, part_finished}
use Rattle.dc_run.proofs.state.State.call_body.Goals as goal

pub returns-in_err-flow-clause-part : goal.returns-in_err-flow-clause-part
returns-in_err-flow-clause-part g c =
    part_refused _ (state_view c.enter.new.self) c.from_residual.result _ _ c.from_residual.ensures.0
    (cut_behind (λ choices. with_parameters contract_mode c.args.arguments.now [] (state_view c.args.self.now choices) (λ places t. run contract_mode c.args.f.now.name (set_view c.args.set.now) places (function_view c.args.f.now).body t)) _ _ _ (λ choices. front-finished (function_view c.args.f.now) (with_parameters contract_mode c.args.arguments.now [] (state_view c.args.self.now choices) (λ places t. run contract_mode c.args.f.now.name (set_view c.args.set.now) places (function_view c.args.f.now).body t))) c.in_err-flow.ensures.part)

pub returns-clause-part : goal.returns-clause-part
returns-clause-part g c =
    part_finished (function_view c.args.f.now) (λ choices. with_parameters contract_mode c.args.arguments.now [] (state_view c.args.self.now choices) (λ places t. run contract_mode c.args.f.now.name (set_view c.args.set.now) places (function_view c.args.f.now).body t)) (state_view c.enter.new.self) c.in_ok-flow.flow c.finished.result _ _ c.in_ok-flow.ensures.part c.finished.ensures.finishes c.finished.ensures.dry
