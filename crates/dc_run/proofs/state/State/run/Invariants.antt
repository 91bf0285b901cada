use Rattle.std.proofs.Common.{◌≤◌, length, drop, map}
use Rattle.dc_core.specs.Run.{run, contract_mode}
use Rattle.dc_core.specs.View.{stmt_view}
use Rattle.dc_world.specs.Log.{hearing}
use Rattle.dc_world.specs.Sets.{set_view}
use Rattle.dc_run.specs.Part.{IsResumed}
use Rattle.dc_run.specs.View.{state_view}
use Rattle.dc_run.proofs.state.State.run.Given as goal

abbrev pub invariant-loop-stmt : goal.invariant-loop-stmt
invariant-loop-stmt g l = record {
  part : IsResumed (λ choices. run contract_mode l.name (set_view l.set) l.places (map stmt_view l.body) (state_view l.initial.self choices))
      (λ choices. run contract_mode l.name (set_view l.set) l.places (map stmt_view (drop l.stmt-index l.body)) (state_view l.self choices))
      (hearing (g.W.Watch.records l.initial.watch) (g.W.Watch.parts l.initial.watch) l.initial.log)
      (hearing (g.W.Watch.records l.watch) (g.W.Watch.parts l.watch) l.log);
  few : length l.self.memory ≤ 65535;
}
