use Rattle.dc_machine.specs.Step.{running}
use Rattle.dc_machine.specs.Linked.{linked_view}
use Rattle.dc_machine.proofs.Parts.{alone-step}
use Rattle.dc_machine.proofs.machine.Machine.perform.Goals as goal

pub returns-in-Call : goal.returns-in-Call
returns-in-Call g c = rw c.in-Call.is (alone-step running _ _ c.call.result _ _ _ (rw (c.as_slice.ensures, c.as_slice-in-Call.ensures) at c.call.ensures))

pub returns-in-Return : goal.returns-in-Return
returns-in-Return g c = rw c.in-Return.is (alone-step running _ _ c.return_value.result _ _ _ (c.return_value.ensures (linked_view c.args.p.now)))

pub returns-in-Goto : goal.returns-in-Goto
returns-in-Goto g c = rw c.in-Goto.is (alone-step running _ _ c.jump.result _ _ _ (c.jump.ensures (linked_view c.args.p.now) c.args.name.now _))

pub returns-in-IfNot : goal.returns-in-IfNot
returns-in-IfNot g c = rw c.in-IfNot.is (alone-step running _ _ c.branch-self.result _ _ _ (c.branch-self.ensures (linked_view c.args.p.now) _))

pub returns-in-CallThrough : goal.returns-in-CallThrough
returns-in-CallThrough g c = rw c.in-CallThrough.is (alone-step running _ _ c.call_through.result _ _ _ (rw (c.as_slice-in-CallThrough.ensures, c.as_slice-in-CallThrough-2.ensures) at c.call_through.ensures))
