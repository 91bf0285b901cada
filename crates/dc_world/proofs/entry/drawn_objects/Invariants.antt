use Rattle.std.proofs.Common.{◌-◌}
use Rattle.dc_world.specs.Told.{supply}
use Rattle.dc_world.specs.Log.{hearing}
use Rattle.dc_world.specs.Drawing.{IsResumed, with_objects}
use Rattle.dc_world.proofs.entry.drawn_objects.Given as goal

abbrev pub invariant-loop-at : goal.invariant-loop-at
invariant-loop-at g l =
    IsResumed (with_objects l.sorts l.initial.memory l.count) (with_objects l.sorts l.memory (l.count - l._at))
    (supply (g.C.Chooser.left l.initial.chooser) (g.C.Chooser.given l.initial.chooser) (g.C.Chooser.dry l.initial.chooser) l.initial.used.items)
    (supply (g.C.Chooser.left l.chooser) (g.C.Chooser.given l.chooser) (g.C.Chooser.dry l.chooser) l.used.items)
    (hearing (g.W.Watch.records l.initial.watch) (g.W.Watch.parts l.initial.watch) l.initial.log)
    (hearing (g.W.Watch.records l.watch) (g.W.Watch.parts l.watch) l.log)
