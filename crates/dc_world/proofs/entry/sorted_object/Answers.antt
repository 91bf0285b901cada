use Rattle.dc_memory.specs.declared.object.ObjKind.TheVariants.{Heap, Stack}
use Rattle.dc_world.specs.View.{object_view}
use Rattle.dc_world.proofs.Drawing.{drawn-dead, first-sort, second-sort}
use Rattle.dc_world.proofs.entry.sorted_object.Goals as goal

pub returns-in-0 : goal.returns-in-0
returns-in-0 g c = rw (c.in-0.is, first-sort c.args.sorts c.args.number) (drawn-dead c.args.number Heap (object_view c.dead_object.result) _ _ _ c.dead_object.ensures.seen c.dead_object.ensures.told)

pub returns-in-1 : goal.returns-in-1
returns-in-1 g c = rw (c.in-1.is, second-sort c.args.sorts c.args.number) (drawn-dead c.args.number Stack (object_view c.dead_object-in-1.result) _ _ _ c.dead_object-in-1.ensures.seen c.dead_object-in-1.ensures.told)
