use Rattle.std.proofs.Common.{◌≤◌, ℕ, List, length, drop}
use Rattle.dc_core.specs.Run.{Out, Note, State, with_parameters, contract_mode}
use Rattle.dc_world.specs.Log.{hearing}
use Rattle.dc_run.specs.Part.{IsResumed}
use Rattle.dc_run.specs.View.{state_view}
use Rattle.dc_run.proofs.state.State.push_parameters.Given as goal

abbrev pub invariant-loop-argument : goal.invariant-loop-argument
invariant-loop-argument g l = record {
  part : (go : List ℕ → State → Out Note) →
      IsResumed (λ choices. with_parameters contract_mode l.arguments l.initial.places.items (state_view l.initial.self choices) go)
      (λ choices. with_parameters contract_mode (drop l.argument-index l.arguments) l.places.items (state_view l.self choices) go)
      (hearing (g.W.Watch.records l.initial.watch) (g.W.Watch.parts l.initial.watch) l.initial.log)
      (hearing (g.W.Watch.records l.watch) (g.W.Watch.parts l.watch) l.log);
  few : length l.self.memory ≤ 65535;
}
