use Rattle.std.proofs.Common.{length}
use Rattle.dc_memory.proofs.Objects.{IsReached, put-written, put-memory}
use Rattle.dc_memory.proofs.store.Store.put.Goals as goal

pub invariant_of-self : goal.invariant_of-self
invariant_of-self c =
    let reached : IsReached c.args.self.now c.self.inside.objects.items c.args.ptr (length c.args.values.now) c.object_number-number.result c.index_mut.result.now =
    record { same = c.self.view_is; number = c.object_number-number.ensures; inside = c.requires; there = c.index_mut.ensures.value } in
    put-memory c.args.self.now c.self.inside.objects.items c.args.ptr (length c.args.values.now) c.object_number-number.result c.index_mut.result.now
    reached c.args.values.now c.put.new.self c.offset.result c.put.ensures c.self.invariant

pub returns : goal.returns
returns c =
    let reached : IsReached c.args.self.now c.self.inside.objects.items c.args.ptr (length c.args.values.now) c.object_number-number.result c.index_mut.result.now =
    record { same = c.self.view_is; number = c.object_number-number.ensures; inside = c.requires; there = c.index_mut.ensures.value } in
    put-written c.args.self.now c.self.inside.objects.items c.args.ptr (length c.args.values.now) c.object_number-number.result c.index_mut.result.now
    reached c.args.values.now c.put.new.self c.offset.result c.offset.ensures.value c.put.ensures
