use Rattle.std.proofs.Common.{◌≡◌, ◌+◌, ◌-◌, ◌∙◌, ap, sym, subst, arith, take, drop}
use Rattle.dc_memory.specs.Objects.{IsMemory}
use Rattle.dc_memory.specs.Places.{range_bytes}
use Rattle.dc_memory.proofs.Objects.{IsReached, put-written, put-memory, reached-below, reached-bytes, reached-beside, set-again, copied-bytes}
use Rattle.dc_memory.proofs.store.Store.copy_across.Goals as goal

pub invariant_of-self : goal.invariant_of-self
invariant_of-self c =
    let m = c.args.self.now in
    let xs = c.self.inside.objects.items in
    let n = c.object_number.result in
    let g = c.index_mut.result.now in
    let h = c.index.result.now in
    let reached : IsReached m xs c.args.to c.args.len n g =
    record { same = c.self.view_is; number = c.object_number.ensures; inside = c.requires.target; there = c.index_mut.ensures.value } in
    let source = reached-beside m xs c.args.to c.args.from c.args.len n c.object_number-2.result _ g h reached c.object_number-2.ensures c.requires.source c.requires.apart c.index.ensures in
    let range = reached-bytes m xs c.args.from c.args.len c.object_number-2.result h source in
    let few : c.offset-start.result + c.args.len - c.offset-start.result ≡ c.args.len = omega arith in
    let bytes = copied-bytes c.offset.result c.offset-start.result c.args.len (c.offset-start.result + c.args.len - c.offset-start.result) c.put.new.self c.as_slice.result.now h.bytes c.replace-bytes.result g.bytes
    (range_bytes m c.args.from c.args.len) c.put.ensures few c.as_slice.ensures c.replace-bytes.ensures.value (range ∙ ap (λ k. take c.args.len (drop k h.bytes)) (sym c.offset-start.ensures.value)) in
    let below = reached-below m xs c.args.to c.args.len n g reached in
    let once = set-again xs (n - 1) g c.index_mut-2.result.now c.replace-bytes.new.dest c.put.new.self below.1 c.index_mut-2.ensures.value in
    subst IsMemory (sym once) (put-memory m xs c.args.to c.args.len n g reached (range_bytes m c.args.from c.args.len) c.put.new.self c.offset.result bytes c.self.invariant)

pub returns : goal.returns
returns c =
    let m = c.args.self.now in
    let xs = c.self.inside.objects.items in
    let n = c.object_number.result in
    let g = c.index_mut.result.now in
    let h = c.index.result.now in
    let reached : IsReached m xs c.args.to c.args.len n g =
    record { same = c.self.view_is; number = c.object_number.ensures; inside = c.requires.target; there = c.index_mut.ensures.value } in
    let source = reached-beside m xs c.args.to c.args.from c.args.len n c.object_number-2.result _ g h reached c.object_number-2.ensures c.requires.source c.requires.apart c.index.ensures in
    let range = reached-bytes m xs c.args.from c.args.len c.object_number-2.result h source in
    let few : c.offset-start.result + c.args.len - c.offset-start.result ≡ c.args.len = omega arith in
    let bytes = copied-bytes c.offset.result c.offset-start.result c.args.len (c.offset-start.result + c.args.len - c.offset-start.result) c.put.new.self c.as_slice.result.now h.bytes c.replace-bytes.result g.bytes
    (range_bytes m c.args.from c.args.len) c.put.ensures few c.as_slice.ensures c.replace-bytes.ensures.value (range ∙ ap (λ k. take c.args.len (drop k h.bytes)) (sym c.offset-start.ensures.value)) in
    let below = reached-below m xs c.args.to c.args.len n g reached in
    let once = set-again xs (n - 1) g c.index_mut-2.result.now c.replace-bytes.new.dest c.put.new.self below.1 c.index_mut-2.ensures.value in
    once ∙ put-written m xs c.args.to c.args.len n g reached (range_bytes m c.args.from c.args.len) c.put.new.self c.offset.result c.offset.ensures.value bytes
