use Rattle.std.proofs.Common.{◌≡◌, ◌∙◌, ap, sym, take, drop}
use Rattle.dc_memory.specs.Places.{range_bytes, put_at}
use Rattle.dc_memory.proofs.Objects.{IsReached, put-written, put-memory, reached-bytes}
use Rattle.dc_memory.proofs.store.Store.copy_within.Goals as goal

pub invariant_of-self : goal.invariant_of-self
invariant_of-self c =
    let reached : IsReached c.args.self.now c.self.inside.objects.items c.args.to c.args.len c.object_number-number.result c.index_mut.result.now =
    record { same = c.self.view_is; number = c.object_number-number.ensures; inside = c.requires.target; there = c.index_mut.ensures.value } in
    put-memory c.args.self.now c.self.inside.objects.items c.args.to c.args.len c.object_number-number.result c.index_mut.result.now
    reached (take c.args.len (drop c.offset-2.result c.index_mut.result.now.bytes)) c.copy_within.new.self c.offset.result c.copy_within.ensures c.self.invariant

pub returns : goal.returns
returns c =
    let reached : IsReached c.args.self.now c.self.inside.objects.items c.args.to c.args.len c.object_number-number.result c.index_mut.result.now =
    record { same = c.self.view_is; number = c.object_number-number.ensures; inside = c.requires.target; there = c.index_mut.ensures.value } in
    let source : IsReached c.args.self.now c.self.inside.objects.items c.args.from c.args.len c.object_number-number.result c.index_mut.result.now =
    record { same = c.self.view_is; number = c.object_number-number.ensures ∙ c.requires.same; inside = c.requires.source; there = c.index_mut.ensures.value } in
    let seen = reached-bytes c.args.self.now c.self.inside.objects.items c.args.from c.args.len c.object_number-number.result c.index_mut.result.now source in
    let bytes : c.copy_within.new.self ≡ put_at c.offset.result (range_bytes c.args.self.now c.args.from c.args.len) c.index_mut.result.now.bytes =
    c.copy_within.ensures ∙ ap (λ l. put_at c.offset.result l c.index_mut.result.now.bytes) (ap (λ k. take c.args.len (drop k c.index_mut.result.now.bytes)) c.offset-2.ensures.value ∙ sym seen) in
    put-written c.args.self.now c.self.inside.objects.items c.args.to c.args.len c.object_number-number.result c.index_mut.result.now
    reached (range_bytes c.args.self.now c.args.from c.args.len) c.copy_within.new.self c.offset.result c.offset.ensures.value bytes
