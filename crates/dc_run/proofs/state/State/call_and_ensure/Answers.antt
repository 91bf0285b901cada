use Rattle.std.proofs.Common.{None, true}
use Rattle.dc_core.specs.Contract.{set_of}
use Rattle.dc_core.specs.Run.{contract_mode, call}
use Rattle.dc_core.specs.Value.{Clause}
use Rattle.dc_core.specs.View.{function_view}
use Rattle.dc_run.specs.Entry.{admitted_if}
use Rattle.dc_run.specs.View.{state_view}
use Rattle.dc_run.proofs.Parts.{part_refused, cut_behind}
use Rattle.dc_run.proofs.Calls.{front-ensured, come_tested, cut_tested}
use Rattle.dc_run.proofs.state.State.call_and_ensure.Goals as goal

pub returns-in_err-flow : goal.returns-in_err-flow
returns-in_err-flow g c =
    let called = rw (c.in_ok-set.ensures, c.assigned.ensures) at c.in_err-flow.ensures.part in
    part_refused _ (state_view c.call.new.self) c.from_residual-in_err-flow.result _ _ c.from_residual-in_err-flow.ensures.0
    (cut_behind (λ choices. call contract_mode (function_view c.args.f.now) (set_of (function_view c.args.f.now).contract.assigns (Clause c.args.arguments.now None) c.args.self.now.memory) c.args.arguments.now (state_view c.args.self.now choices)) (λ choices. admitted_if (function_view c.args.f.now) c.args.arguments.now (state_view c.args.self.now choices) true) _ _ (λ choices. front-ensured (function_view c.args.f.now) c.args.arguments.now (call contract_mode (function_view c.args.f.now) (set_of (function_view c.args.f.now).contract.assigns (Clause c.args.arguments.now None) c.args.self.now.memory) c.args.arguments.now (state_view c.args.self.now choices))) called)

pub returns-in_err-ensure : goal.returns-in_err-ensure
returns-in_err-ensure g c =
    let called = rw (c.in_ok-set.ensures, c.assigned.ensures) at c.in_ok-flow.ensures.part in
    part_refused _ (state_view c.call.new.self) c.from_residual-in_err-ensure.result _ _ c.from_residual-in_err-ensure.ensures.0
    (cut_tested (function_view c.args.f.now) c.args.arguments.now (λ choices. call contract_mode (function_view c.args.f.now) (set_of (function_view c.args.f.now).contract.assigns (Clause c.args.arguments.now None) c.args.self.now.memory) c.args.arguments.now (state_view c.args.self.now choices)) c.in_ok-flow.flow (state_view c.call.new.self) _ _ _ called c.in_err-ensure.ensures)

pub returns : goal.returns
returns g c =
    let called = rw (c.in_ok-set.ensures, c.assigned.ensures) at c.in_ok-flow.ensures.part in
    come_tested (function_view c.args.f.now) c.args.arguments.now (λ choices. call contract_mode (function_view c.args.f.now) (set_of (function_view c.args.f.now).contract.assigns (Clause c.args.arguments.now None) c.args.self.now.memory) c.args.arguments.now (state_view c.args.self.now choices)) c.in_ok-flow.flow (state_view c.call.new.self) _ _ _ called c.in_ok-ensure.ensures
