use Rattle.std.proofs.Common.{drop}
use Rattle.dc_core.specs.Entry.{static_objects}
use Rattle.dc_world.specs.View.{objects_view}
use Rattle.dc_world.specs.Told.{supply}
use Rattle.dc_world.specs.Log.{hearing}
use Rattle.dc_world.specs.Drawing.{IsResumed, behind}
use Rattle.dc_world.proofs.entry.static_objects.Given as goal

abbrev pub invariant-loop-size : goal.invariant-loop-size
invariant-loop-size g l =
    IsResumed (static_objects l.sizes) (behind (objects_view l.objects.items) (static_objects (drop l.size-index l.sizes)))
    (supply (g.C.Chooser.left l.initial.chooser) (g.C.Chooser.given l.initial.chooser) (g.C.Chooser.dry l.initial.chooser) l.initial.used.items)
    (supply (g.C.Chooser.left l.chooser) (g.C.Chooser.given l.chooser) (g.C.Chooser.dry l.chooser) l.used.items)
    (hearing (g.W.Watch.records l.initial.watch) (g.W.Watch.parts l.initial.watch) l.initial.log)
    (hearing (g.W.Watch.records l.watch) (g.W.Watch.parts l.watch) l.log)
