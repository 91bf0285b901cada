use Rattle.std.proofs.Common.{◌+◌, ◌-◌}
use Rattle.dc_world.specs.Told.{supply}
use Rattle.dc_world.specs.Log.{hearing}
use Rattle.dc_world.specs.Drawing.{IsResumed}
use Rattle.dc_machine.specs.Over.{overwritten}
use Rattle.dc_machine.proofs.over.draw_over.Given as goal

-- the bytes from the index on are still to be drawn
abbrev pub invariant-loop-at : goal.invariant-loop-at
invariant-loop-at g l =
    IsResumed (overwritten l.number l.from l.len l.initial.memory) (overwritten l.number (l.from + l.at) (l.len - l.at) l.memory)
    (supply (g.C.Chooser.left l.initial.chooser) (g.C.Chooser.given l.initial.chooser) (g.C.Chooser.dry l.initial.chooser) l.initial.used.items)
    (supply (g.C.Chooser.left l.chooser) (g.C.Chooser.given l.chooser) (g.C.Chooser.dry l.chooser) l.used.items)
    (hearing (g.W.Watch.records l.initial.watch) (g.W.Watch.parts l.initial.watch) l.initial.log)
    (hearing (g.W.Watch.records l.watch) (g.W.Watch.parts l.watch) l.log)
