use Rattle.std.proofs.Common.{drop}
use Rattle.dc_goto.specs.Acts.{havocked}
use Rattle.dc_world.specs.Told.{supply}
use Rattle.dc_world.specs.Log.{hearing}
use Rattle.dc_world.specs.Drawing.{IsResumed}
use Rattle.dc_machine.proofs.Listed.{named_ranges}
use Rattle.dc_machine.proofs.havoc.havoc_ranges.Given as goal

abbrev pub invariant-loop-at : goal.invariant-loop-at
invariant-loop-at g l =
    IsResumed (havocked (named_ranges l.sets.sets) l.initial.memory) (havocked (drop l.at (named_ranges l.sets.sets)) l.memory)
    (supply (g.C.Chooser.left l.initial.chooser) (g.C.Chooser.given l.initial.chooser) (g.C.Chooser.dry l.initial.chooser) l.initial.used.items)
    (supply (g.C.Chooser.left l.chooser) (g.C.Chooser.given l.chooser) (g.C.Chooser.dry l.chooser) l.used.items)
    (hearing (g.W.Watch.records l.initial.watch) (g.W.Watch.parts l.initial.watch) l.initial.log)
    (hearing (g.W.Watch.records l.watch) (g.W.Watch.parts l.watch) l.log)
