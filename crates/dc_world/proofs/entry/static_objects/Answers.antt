use Rattle.std.proofs.Common.{suc, ◌++◌, ◌∷◌, [], drop, get_or, arith, drop-cons, add-one}
use Rattle.std.proofs.lemmas.List.{map-append}
use Rattle.dc_core.specs.Choices.{draw_bytes}
use Rattle.dc_core.specs.Entry.{static_objects}
use Rattle.dc_memory.specs.declared.object.ObjKind.TheVariants.{Static}
use Rattle.dc_memory.specs.Objects.{holding}
use Rattle.dc_world.specs.View.{objects_view}
use Rattle.dc_world.specs.Drawing.{behind}
use Rattle.dc_world.proofs.Drawing.{resumed_none, resumed_same, resumed_more, resumed_dry, resumed_cut, resumed_stop, drawing_cut, statics-start, statics-more}
use Rattle.dc_world.proofs.entry.static_objects.Goals as goal

pub loop-size-init : goal.loop-size-init
loop-size-init g c =
    rw c.new-objects.ensures.items (resumed_same (static_objects c.args.sizes.now) (static_objects c.args.sizes.now) (behind [] (static_objects c.args.sizes.now)) _ _ _ _ (resumed_none (static_objects c.args.sizes.now) _ _) (statics-start c.args.sizes.now))

pub returns-in_err-try_reserve : goal.returns-in_err-try_reserve
returns-in_err-try_reserve g c =
    drawing_cut (λ objects. objects_view objects.items) (static_objects c.args.sizes.now) c.from_residual.result _ _ _ _ c.from_residual.ensures.0 (resumed_stop (static_objects c.args.sizes.now) (behind (objects_view c.loop-size.objects.items) (static_objects (drop c.loop-size.size-index c.args.sizes.now))) _ _ _ _ c.loop-size.invariant)

pub returns-in_err-bytes : goal.returns-in_err-bytes
returns-in_err-bytes g c =
    drawing_cut (λ objects. objects_view objects.items) (static_objects c.args.sizes.now) c.from_residual-in_err-bytes.result _ _ _ _ c.from_residual-in_err-bytes.ensures.0
    (resumed_cut (static_objects c.args.sizes.now) (behind (objects_view c.loop-size.objects.items) (static_objects (drop c.loop-size.size-index c.args.sizes.now))) (draw_bytes (get_or c.args.sizes.now c.loop-size.size-index 0)) (λ bytes. behind ((objects_view c.loop-size.objects.items) ++ holding Static bytes ∷ []) (static_objects (drop (suc c.loop-size.size-index) c.args.sizes.now))) _ _ _ _ _ _ c.loop-size.invariant (statics-more (objects_view c.loop-size.objects.items) (drop c.loop-size.size-index c.args.sizes.now) (drop (suc c.loop-size.size-index) c.args.sizes.now) (get_or c.args.sizes.now c.loop-size.size-index 0) (drop-cons c.args.sizes.now c.loop-size.size-index 0 (omega arith))) c.in_err-bytes.ensures)

pub returns-in_default : goal.returns-in_default
returns-in_default g c =
    resumed_dry (static_objects c.args.sizes.now) (behind (objects_view c.loop-size.objects.items) (static_objects (drop c.loop-size.size-index c.args.sizes.now))) (draw_bytes (get_or c.args.sizes.now c.loop-size.size-index 0)) (λ bytes. behind ((objects_view c.loop-size.objects.items) ++ holding Static bytes ∷ []) (static_objects (drop (suc c.loop-size.size-index) c.args.sizes.now))) _ _ _ _ _ _ c.loop-size.invariant (statics-more (objects_view c.loop-size.objects.items) (drop c.loop-size.size-index c.args.sizes.now) (drop (suc c.loop-size.size-index) c.args.sizes.now) (get_or c.args.sizes.now c.loop-size.size-index 0) (drop-cons c.args.sizes.now c.loop-size.size-index 0 (omega arith))) (rw c.in_default.is at c.in_ok-bytes.ensures)

pub loop-size-preserved : goal.loop-size-preserved
loop-size-preserved g c =
    rw (c.push_reserved.ensures.items, c.try_reserve.ensures.items, map-append, add-one)
    (resumed_more (static_objects c.args.sizes.now) (behind (objects_view c.loop-size.objects.items) (static_objects (drop c.loop-size.size-index c.args.sizes.now))) (draw_bytes (get_or c.args.sizes.now c.loop-size.size-index 0)) (λ bytes. behind ((objects_view c.loop-size.objects.items) ++ holding Static bytes ∷ []) (static_objects (drop (suc c.loop-size.size-index) c.args.sizes.now))) c.in-Some.bytes.items _ _ _ _ _ _ c.loop-size.invariant (statics-more (objects_view c.loop-size.objects.items) (drop c.loop-size.size-index c.args.sizes.now) (drop (suc c.loop-size.size-index) c.args.sizes.now) (get_or c.args.sizes.now c.loop-size.size-index 0) (drop-cons c.args.sizes.now c.loop-size.size-index 0 (omega arith))) (rw c.in-Some.is at c.in_ok-bytes.ensures))
