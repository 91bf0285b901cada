use Rattle.std.proofs.Common.{◌≡◌, drop}
use Rattle.dc_world.specs.Told.{supply}
use Rattle.dc_world.specs.Log.{hearing}
use Rattle.dc_machine.specs.View.{now_view}
use Rattle.dc_machine.proofs.Draws.{IsPassed}
use Rattle.dc_machine.proofs.Listed.{named_frees}
use Rattle.dc_machine.proofs.now.Now.kill_frees.Given as goal

abbrev pub invariant-loop-at : goal.invariant-loop-at
invariant-loop-at g l = record {
  passed :
      IsPassed (named_frees l.initial.self.sets.sets) (drop l.at (named_frees l.initial.self.sets.sets)) (now_view l.initial.self) (now_view l.self)
      (supply (g.C.Chooser.left l.initial.chooser) (g.C.Chooser.given l.initial.chooser) (g.C.Chooser.dry l.initial.chooser) l.initial.used.items)
      (supply (g.C.Chooser.left l.chooser) (g.C.Chooser.given l.chooser) (g.C.Chooser.dry l.chooser) l.used.items)
      (hearing (g.W.Watch.records l.initial.watch) (g.W.Watch.parts l.initial.watch) l.initial.log)
      (hearing (g.W.Watch.records l.watch) (g.W.Watch.parts l.watch) l.log);
  sets : l.self.sets.sets ≡ l.initial.self.sets.sets;
}
