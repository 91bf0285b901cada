use Rattle.std.proofs.Common.{◌∙◌, sym, refl, ap, length, []}
use Rattle.std.proofs.lemmas.List.{length-map}
use Rattle.dc_goto.specs.Acts.{act}
use Rattle.dc_goto.specs.Program as goto
use Rattle.dc_goto.specs.View.{sig_view}
use Rattle.dc_world.specs.declared.report.End.TheVariants as end
use Rattle.dc_machine.specs.Linked.{linked_view}
use Rattle.dc_machine.specs.Step.{acting}
use Rattle.dc_machine.specs.View.{now_view}
use Rattle.dc_machine.proofs.Parts.{alone-step, ends_named}
use Rattle.dc_machine.proofs.now.Now.act.Goals as goal

pub returns-in-Set : goal.returns-in-Set
returns-in-Set g c = λ straight. rw c.in-Set.is (alone-step acting _ _ c.set.result _ _ _ (c.set.ensures (linked_view c.args.p.now) _))

pub returns-in-Keep : goal.returns-in-Keep
returns-in-Keep g c = λ straight. rw c.in-Keep.is (alone-step acting _ _ c.keep.result _ _ _ (c.keep.ensures (linked_view c.args.p.now) c.args.name.now _))

pub returns-in-Draw : goal.returns-in-Draw
returns-in-Draw g c = λ straight. rw c.in-Draw.is (c.draw_register.ensures (linked_view c.args.p.now) c.args.name.now)

pub returns-in-Store : goal.returns-in-Store
returns-in-Store g c = λ straight. rw c.in-Store.is (alone-step acting _ _ c.store.result _ _ _ (c.store.ensures (linked_view c.args.p.now)))

pub returns-in-Init : goal.returns-in-Init
returns-in-Init g c = λ straight. rw c.in-Init.is (alone-step acting _ _ c.init.result _ _ _ (c.init.ensures (linked_view c.args.p.now) _))

pub returns-in-Copy : goal.returns-in-Copy
returns-in-Copy g c = λ straight. rw c.in-Copy.is (alone-step acting _ _ c.copy.result _ _ _ (c.copy.ensures (linked_view c.args.p.now)))

pub returns-in-Fill : goal.returns-in-Fill
returns-in-Fill g c = λ straight. rw c.in-Fill.is (alone-step acting _ _ c.fill.result _ _ _ (c.fill.ensures (linked_view c.args.p.now)))

pub returns-in-Probe : goal.returns-in-Probe
returns-in-Probe g c = λ straight. rw c.in-Probe.is (alone-step acting _ _ c.probe.result _ _ _ (c.probe.ensures (linked_view c.args.p.now) _))

pub returns-in-Local : goal.returns-in-Local
returns-in-Local g c = λ straight. rw c.in-Local.is (c.local.ensures (linked_view c.args.p.now) c.args.name.now)

pub returns-in-Kill : goal.returns-in-Kill
returns-in-Kill g c = λ straight. rw c.in-Kill.is (alone-step acting _ _ c.kill.result _ _ _ (c.kill.ensures (linked_view c.args.p.now) c.args.name.now))

pub returns-in-Alloc : goal.returns-in-Alloc
returns-in-Alloc g c = λ straight. rw c.in-Alloc.is (c.allocate.ensures (linked_view c.args.p.now))

pub returns-in-Free : goal.returns-in-Free
returns-in-Free g c = λ straight. rw c.in-Free.is (alone-step acting _ _ c.free.result _ _ _ (c.free.ensures (linked_view c.args.p.now)))

pub returns-in-Trap : goal.returns-in-Trap
returns-in-Trap g c = λ straight.
    rw c.in-Trap.is (alone-step acting _ _ c.undefined.result _ _ _
    (ends_named acting (λ choices. act (linked_view c.args.p.now) c.args.name.now goto.Trap (now_view c.args.self.now choices)) (now_view c.args.self.now) (end.Undefined c.args.name.now) (now_view c.args.self.now []).world c.undefined.result _ c.undefined.ensures refl refl refl))

pub returns-in-Assert : goal.returns-in-Assert
returns-in-Assert g c = λ straight. rw c.in-Assert.is (alone-step acting _ _ c.assert.result _ _ _ (rw c.as_slice.ensures at (c.assert.ensures (linked_view c.args.p.now))))

pub returns-in-Check : goal.returns-in-Check
returns-in-Check g c = λ straight. rw c.in-Check.is (alone-step acting _ _ c.check.result _ _ _ (rw c.as_slice-in-Check.ensures at (c.check.ensures (linked_view c.args.p.now) c.args.name.now)))

pub returns-in-Assume : goal.returns-in-Assume
returns-in-Assume g c = λ straight. rw c.in-Assume.is (alone-step acting _ _ c.assume.result _ _ _ (c.assume.ensures (linked_view c.args.p.now) _))

pub returns-in-Require : goal.returns-in-Require
returns-in-Require g c = λ straight. rw c.in-Require.is (alone-step acting _ _ c.require.result _ _ _ (c.require.ensures (linked_view c.args.p.now) c.args.name.now _))

pub returns-in-Push : goal.returns-in-Push
returns-in-Push g c = λ straight. rw c.in-Push.is (alone-step acting _ _ c.push_set.result _ _ _ (c.push_set.ensures (linked_view c.args.p.now) c.args.name.now _))

pub returns-in-Pop : goal.returns-in-Pop
returns-in-Pop g c = λ straight. rw c.in-Pop.is (alone-step acting _ _ c.pop_set.result _ _ _ (c.pop_set.ensures (linked_view c.args.p.now) c.args.name.now _))

pub returns-in-Range : goal.returns-in-Range
returns-in-Range g c = λ straight. rw c.in-Range.is (alone-step acting _ _ c.range.result _ _ _ (c.range.ensures (linked_view c.args.p.now) c.args.name.now _))

pub returns-in-Target : goal.returns-in-Target
returns-in-Target g c = λ straight. rw c.in-Target.is (alone-step acting _ _ c.target.result _ _ _ (c.target.ensures (linked_view c.args.p.now) c.args.name.now _))

pub returns-in-Covers : goal.returns-in-Covers
returns-in-Covers g c = λ straight. rw c.in-Covers.is (alone-step acting _ _ c.covers.result _ _ _ (rw c.as_slice-in-Covers.ensures at (c.covers.ensures (linked_view c.args.p.now) c.args.name.now)))

pub returns-in-MayFree : goal.returns-in-MayFree
returns-in-MayFree g c = λ straight. rw c.in-MayFree.is (alone-step acting _ _ c.check_free.result _ _ _ (rw c.as_slice-in-MayFree.ensures at (c.check_free.ensures (linked_view c.args.p.now) c.args.name.now)))

pub returns-in-Inside : goal.returns-in-Inside
returns-in-Inside g c = λ straight. rw c.in-Inside.is (alone-step acting _ _ c.inside.result _ _ _ (rw c.as_slice-in-Inside.ensures at (c.inside.ensures (linked_view c.args.p.now) c.args.name.now)))

pub returns-in-Seen : goal.returns-in-Seen
returns-in-Seen g c = λ straight. rw c.in-Seen.is (alone-step acting _ _ c.forget_seen.result _ _ _ (c.forget_seen.ensures (linked_view c.args.p.now) c.args.name.now _))

pub returns-in-Havoc : goal.returns-in-Havoc
returns-in-Havoc g c = λ straight. rw c.in-Havoc.is (c.havoc.ensures (linked_view c.args.p.now) c.args.name.now)

pub returns-in-Frees : goal.returns-in-Frees
returns-in-Frees g c = λ straight. rw c.in-Frees.is (c.kill_frees.ensures (linked_view c.args.p.now) c.args.name.now)

pub returns-in-Statics : goal.returns-in-Statics
returns-in-Statics g c = λ straight.
    rw c.in-Statics.is (c.draw_statics.ensures (linked_view c.args.p.now) c.args.name.now (length-map c.args.p.now.goto.now.functions sig_view ∙ sym (ap length c.as_slice-in-Statics.ensures)) (sym c.requires.sizes ∙ sym c.as_slice-in-Statics-2.ensures.value))

pub returns-in-OutsideObjects : goal.returns-in-OutsideObjects
returns-in-OutsideObjects g c = λ straight. rw c.in-OutsideObjects.is (c.draw_outside.ensures (linked_view c.args.p.now) c.args.name.now)

pub returns-in-NewObjects : goal.returns-in-NewObjects
returns-in-NewObjects g c = λ straight. rw c.in-NewObjects.is (c.draw_new.ensures (linked_view c.args.p.now) c.args.name.now)
