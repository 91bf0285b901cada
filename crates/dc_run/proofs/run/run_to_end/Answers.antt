use Rattle.std.proofs.Common.{◌-◌, arith, refl}
use Rattle.dc_core.specs.Run.{contract_run}
use Rattle.dc_core.specs.View.{function_view, program_view}
use Rattle.dc_run.specs.Entry.{entry_view}
use Rattle.dc_run.specs.View.{state_view}
use Rattle.dc_run.proofs.Runs.{called_state, come_with, cut_with, run_without_steps, run_dry, run_refused_early, run_called, run_refused, run_wanting}
use Rattle.dc_run.proofs.run.run_to_end.Goals as goal

pub returns-then-steps-eq0 : goal.returns-then-steps-eq0
returns-then-steps-eq0 g c = run_without_steps (program_view c.args.p.now) c.args.steps _ _ (omega (arith, c.if-steps-eq0.true))

pub returns-in_err-entry : goal.returns-in_err-entry
returns-in_err-entry g c =
    run_wanting (contract_run (program_view c.args.p.now) c.args.steps) c.from_residual.result _ _ _ _ c.from_residual.ensures.0
    (run_refused_early (program_view c.args.p.now) c.args.steps (c.args.steps - 1) _ _ _ _ (omega (arith, c.if-steps-eq0.false)) c.in_err-entry.ensures.drawn)

pub returns-in_default : goal.returns-in_default
returns-in_default g c =
    run_dry (program_view c.args.p.now) c.args.steps (c.args.steps - 1) _ _ _ _ (omega (arith, c.if-steps-eq0.false)) (rw c.in_default.is at c.in_ok-entry.ensures.drawn)

pub admit-requires : goal.admit-requires
admit-requires g c = let few = rw c.in-Some.is at c.in_ok-entry.ensures.few in few c.requires.few

pub returns-in_err-flow : goal.returns-in_err-flow
returns-in_err-flow g c =
    let cut = rw (c.as_slice.ensures.value, c.new.ensures.items) at c.in_err-flow.ensures in
    let cut_off = cut_with (function_view c.args.f.now) (program_view c.args.p.now).function (entry_view c.in-Some.entry).arguments (called_state (c.args.steps - 1) (entry_view c.in-Some.entry)) _ _ c.requires.function cut in
    run_wanting (contract_run (program_view c.args.p.now) c.args.steps) c.from_residual-in_err-flow.result _ _ _ _ c.from_residual-in_err-flow.ensures.0
    (run_refused (program_view c.args.p.now) c.args.steps (c.args.steps - 1) (entry_view c.in-Some.entry) _ _ _ _ _ (omega (arith, c.if-steps-eq0.false)) (rw c.in-Some.is at c.in_ok-entry.ensures.drawn) cut_off)

pub returns : goal.returns
returns g c =
    let called = rw (c.as_slice.ensures.value, c.new.ensures.items) at c.in_ok-flow.ensures in
    let come = come_with (function_view c.args.f.now) (program_view c.args.p.now).function (entry_view c.in-Some.entry).arguments (called_state (c.args.steps - 1) (entry_view c.in-Some.entry)) (state_view c.admit.new.self) c.in_ok-flow.flow _ _ c.requires.function called in
    rw c.end.ensures
    (run_called (program_view c.args.p.now) c.args.steps (c.args.steps - 1) (entry_view c.in-Some.entry) (state_view c.admit.new.self) c.in_ok-flow.flow _ _ _ _ _ (omega (arith, c.if-steps-eq0.false)) (λ rest. refl) (λ rest. refl)
    (rw c.in-Some.is at c.in_ok-entry.ensures.drawn) come)
