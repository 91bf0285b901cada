use Rattle.std.proofs.Common.{◌≡◌, ◌+◌, suc, drop}
use Rattle.dc_world.specs.Told.{supply}
use Rattle.dc_world.specs.Log.{hearing}
use Rattle.dc_world.specs.Drawing.{IsResumed}
use Rattle.dc_machine.specs.Over.{statics_overwritten}
use Rattle.dc_machine.proofs.over.draw_all_over.Given as goal

-- the variables from the index on are still to be drawn
abbrev pub invariant-loop-size : goal.invariant-loop-size
invariant-loop-size g l = record {
  number : l.number ≡ l.count + l.size-index;
  drawn : IsResumed (statics_overwritten (suc l.count) l.sizes l.initial.memory) (statics_overwritten (l.number + 1) (drop l.size-index l.sizes) l.memory)
      (supply (g.C.Chooser.left l.initial.chooser) (g.C.Chooser.given l.initial.chooser) (g.C.Chooser.dry l.initial.chooser) l.initial.used.items)
      (supply (g.C.Chooser.left l.chooser) (g.C.Chooser.given l.chooser) (g.C.Chooser.dry l.chooser) l.used.items)
      (hearing (g.W.Watch.records l.initial.watch) (g.W.Watch.parts l.initial.watch) l.initial.log)
      (hearing (g.W.Watch.records l.watch) (g.W.Watch.parts l.watch) l.log);
}
