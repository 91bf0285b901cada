use Rattle.std.proofs.Common.{refl}
use Rattle.dc_core.specs.Choices.{draw}
use Rattle.dc_world.specs.Sorts.{count_of, object_of}
use Rattle.dc_world.specs.View.{object_view}
use Rattle.dc_world.specs.Drawing.{next_object}
use Rattle.dc_world.proofs.Drawing.{resumed_none, resumed_more, resumed_cut, resumed_last, drawing_cut}
use Rattle.dc_world.proofs.entry.next_object.Goals as goal

pub returns-in_err-sort : goal.returns-in_err-sort
returns-in_err-sort g c =
    drawing_cut object_view (next_object c.args.sorts c.args.number) c.from_residual.result _ _ _ _ c.from_residual.ensures.0
    (resumed_cut (next_object c.args.sorts c.args.number) (next_object c.args.sorts c.args.number) (draw (count_of c.args.sorts)) (λ sort. object_of c.args.sorts c.args.number sort) _ _ _ _ _ _ (resumed_none (next_object c.args.sorts c.args.number) _ _) (λ choices. refl) (rw c.count.ensures at c.in_err-sort.ensures.drawn))

pub returns : goal.returns
returns g c =
    resumed_last object_view (next_object c.args.sorts c.args.number) (object_of c.args.sorts c.args.number c.in-Some.sort) c.sorted_object.result _ _ _ _ _ _
    (resumed_more (next_object c.args.sorts c.args.number) (next_object c.args.sorts c.args.number) (draw (count_of c.args.sorts)) (λ sort. object_of c.args.sorts c.args.number sort) c.in-Some.sort _ _ _ _ _ _ (resumed_none (next_object c.args.sorts c.args.number) _ _) (λ choices. refl) (rw (c.in-Some.is, c.count.ensures) at c.in_ok-sort.ensures.drawn))
    c.sorted_object.ensures
