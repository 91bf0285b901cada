use Rattle.std.proofs.Common.{◌+◌, ◌-◌, ◌++◌, ◌∷◌, [], arith}
use Rattle.dc_world.specs.View.{object_view}
use Rattle.dc_world.specs.Drawing.{next_object, with_objects}
use Rattle.dc_world.proofs.Drawing.{resumed_none, resumed_same, resumed_more, resumed_dry, resumed_cut, resumed_stop, drawing_cut, objects-start, objects-more}
use Rattle.dc_world.proofs.entry.drawn_objects.Goals as goal

pub loop-at-init : goal.loop-at-init
loop-at-init g c =
    resumed_same (with_objects c.args.sorts c.args.memory.now c.args.count) (with_objects c.args.sorts c.args.memory.now c.args.count) (with_objects c.args.sorts c.args.memory.now (c.args.count - 0)) _ _ _ _ (resumed_none (with_objects c.args.sorts c.args.memory.now c.args.count) _ _) (objects-start c.args.sorts c.args.memory.now c.args.count (c.args.count - 0) (omega arith))

pub returns-in_err-object : goal.returns-in_err-object
returns-in_err-object g c =
    drawing_cut (λ u. c.loop-at.memory) (with_objects c.args.sorts c.args.memory.now c.args.count) c.from_residual.result _ _ _ _ c.from_residual.ensures.0
    (resumed_cut (with_objects c.args.sorts c.args.memory.now c.args.count) (with_objects c.args.sorts c.loop-at.memory (c.args.count - c.loop-at._at)) (next_object c.args.sorts (c.count-number.result + 1)) (λ o. with_objects c.args.sorts (c.loop-at.memory ++ o ∷ []) (c.args.count - (c.loop-at._at + 1))) _ _ _ _ _ _ c.loop-at.invariant (objects-more c.args.sorts c.loop-at.memory (c.count-number.result + 1) (c.args.count - c.loop-at._at) (c.args.count - (c.loop-at._at + 1)) (omega (arith, c.count-number.ensures.value)) (omega arith)) c.in_err-object.ensures)

pub returns-in_default : goal.returns-in_default
returns-in_default g c =
    resumed_dry (with_objects c.args.sorts c.args.memory.now c.args.count) (with_objects c.args.sorts c.loop-at.memory (c.args.count - c.loop-at._at)) (next_object c.args.sorts (c.count-number.result + 1)) (λ o. with_objects c.args.sorts (c.loop-at.memory ++ o ∷ []) (c.args.count - (c.loop-at._at + 1))) _ _ _ _ _ _ c.loop-at.invariant (objects-more c.args.sorts c.loop-at.memory (c.count-number.result + 1) (c.args.count - c.loop-at._at) (c.args.count - (c.loop-at._at + 1)) (omega (arith, c.count-number.ensures.value)) (omega arith)) (rw c.in_default.is at c.in_ok-object.ensures)

pub returns-in_err-add : goal.returns-in_err-add
returns-in_err-add g c =
    drawing_cut (λ u. c.add.new.memory) (with_objects c.args.sorts c.args.memory.now c.args.count) c.from_residual-in_err-add.result _ _ _ _ c.from_residual-in_err-add.ensures.0
    (resumed_stop (with_objects c.args.sorts c.args.memory.now c.args.count) (with_objects c.args.sorts (c.loop-at.memory ++ object_view c.in-Some.object ∷ []) (c.args.count - (c.loop-at._at + 1))) _ _ _ _
    (resumed_more (with_objects c.args.sorts c.args.memory.now c.args.count) (with_objects c.args.sorts c.loop-at.memory (c.args.count - c.loop-at._at)) (next_object c.args.sorts (c.count-number.result + 1)) (λ o. with_objects c.args.sorts (c.loop-at.memory ++ o ∷ []) (c.args.count - (c.loop-at._at + 1))) (object_view c.in-Some.object) _ _ _ _ _ _ c.loop-at.invariant (objects-more c.args.sorts c.loop-at.memory (c.count-number.result + 1) (c.args.count - c.loop-at._at) (c.args.count - (c.loop-at._at + 1)) (omega (arith, c.count-number.ensures.value)) (omega arith)) (rw c.in-Some.is at c.in_ok-object.ensures)))

pub loop-at-preserved : goal.loop-at-preserved
loop-at-preserved g c =
    rw c.in_ok-add.ensures.ok
    (resumed_more (with_objects c.args.sorts c.args.memory.now c.args.count) (with_objects c.args.sorts c.loop-at.memory (c.args.count - c.loop-at._at)) (next_object c.args.sorts (c.count-number.result + 1)) (λ o. with_objects c.args.sorts (c.loop-at.memory ++ o ∷ []) (c.args.count - (c.loop-at._at + 1))) (object_view c.in-Some.object) _ _ _ _ _ _ c.loop-at.invariant (objects-more c.args.sorts c.loop-at.memory (c.count-number.result + 1) (c.args.count - c.loop-at._at) (c.args.count - (c.loop-at._at + 1)) (omega (arith, c.count-number.ensures.value)) (omega arith)) (rw c.in-Some.is at c.in_ok-object.ensures))
