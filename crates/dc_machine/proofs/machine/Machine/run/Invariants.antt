use Rattle.std.proofs.Common.{[]}
use Rattle.dc_goto.specs.Machine.{Going}
use Rattle.dc_world.specs.Log.{hearing}
use Rattle.dc_world.specs.Told.{supply}
use Rattle.dc_machine.specs.Linked.{linked_view}
use Rattle.dc_machine.specs.Step.{GoesOn, running}
use Rattle.dc_machine.specs.View.{machine_view}
use Rattle.dc_machine.proofs.Parts.{after_steps}
use Rattle.dc_machine.proofs.machine.Machine.run.Given as goal

abbrev pub invariant-loop-step : goal.invariant-loop-step
invariant-loop-step g l =
    GoesOn running (after_steps (linked_view l.p) (λ choices. Going [] (machine_view (linked_view l.p).bodies l.initial.self choices)) l._step)
    (machine_view (linked_view l.p).bodies l.self)
    (supply (g.C.Chooser.left l.initial.chooser) (g.C.Chooser.given l.initial.chooser) (g.C.Chooser.dry l.initial.chooser) l.initial.used.items)
    (supply (g.C.Chooser.left l.chooser) (g.C.Chooser.given l.chooser) (g.C.Chooser.dry l.chooser) l.used.items)
    (hearing (g.W.Watch.records l.initial.watch) (g.W.Watch.parts l.initial.watch) l.initial.log)
    (hearing (g.W.Watch.records l.watch) (g.W.Watch.parts l.watch) l.log)
