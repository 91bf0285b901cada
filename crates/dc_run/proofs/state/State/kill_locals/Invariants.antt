use Rattle.std.proofs.Common.{◌≡◌, ℕ, List, [], length, map}
use Rattle.dc_core.specs.Run.{Did}
use Rattle.dc_core.specs.World.{left, kill_events}
use Rattle.dc_world.specs.Log.{hearing}
use Rattle.dc_world.specs.Told.{told}
use Rattle.dc_run.specs.View.{state_view}
use Rattle.dc_run.proofs.state.State.kill_locals.Given as goal

-- what is still to be done
abbrev pub invariant-loop-object : goal.invariant-loop-object
invariant-loop-object g l = record {
  steps : l.self.left ≡ l.initial.self.left;
  dies : (choices : List ℕ) → left [] (state_view l.self choices).world ≡ left [] (state_view l.initial.self choices).world;
  tells : told (map Did (kill_events (state_view l.self []).world)) (hearing (g.W.Watch.records l.watch) (g.W.Watch.parts l.watch) l.log)
      ≡ told (map Did (kill_events (state_view l.initial.self []).world)) (hearing (g.W.Watch.records l.initial.watch) (g.W.Watch.parts l.initial.watch) l.initial.log);
}

abbrev pub decreases-loop-object : goal.decreases-loop-object
decreases-loop-object g l = length l.self.locals.items
