use Rattle.std.proofs.Common.{◌*◌, ◌+◌, sym, ◌∙◌, arith}
use Rattle.dc_memory.specs.Places.{with_bytes}
use Rattle.dc_world.proofs.Changes.{HasRoom, changed-none, nothing-seen, nothing-beyond, rewrites, room, left_dead, left_beyond}
use Rattle.dc_world.proofs.memory.rewrite.Goals as goal
use Rattle.dc_world.proofs.memory.rewrite.Goals.{else-live-via-then-live+else-from-size, else-live-via-else-live}

pub returns-then-number-count : goal.returns-then-number-count
returns-then-number-count c = sym (changed-none (with_bytes c.args.from c.args.bytes.now) c.args.memory.now c.args.number (nothing-beyond c.args.memory.now c.args.number (omega (arith, c.count.ensures.value, c.if-number-count.true))))

pub returns-in_default : goal.returns-in_default
returns-in_default c = sym (changed-none (with_bytes c.args.from c.args.bytes.now) c.args.memory.now c.args.number (nothing-seen c.args.memory.now c.args.number c.in_default.ensures.value))

pub put-requires : goal.put-requires
put-requires c =
    let has : HasRoom c.args.number c.args.from (c.args.number * 281474976710656 + c.args.from) c.in-Some.size c.min-count.result c.args.bytes.now =
    record { place = omega arith; first = c.if-from-size.true; small = c.in-Some.ensures.small; few = c.min-count.ensures } in
    room c.args.memory.now c.args.number c.args.from _ c.in-Some.field-0-0 c.in-Some.live c.in-Some.size c.min-count.result c.args.bytes.now c.in-Some.ensures.value c.if-live.true has

pub returns-then-from-size : goal.returns-then-from-size
returns-then-from-size c =
    let has : HasRoom c.args.number c.args.from (c.args.number * 281474976710656 + c.args.from) c.in-Some.size c.min-count.result c.args.bytes.now =
    record { place = omega arith; first = c.if-from-size.true; small = c.in-Some.ensures.small; few = c.min-count.ensures } in
    c.put.ensures ∙ rewrites c.args.memory.now c.args.number c.args.from _ c.in-Some.field-0-0 c.in-Some.live c.in-Some.size c.min-count.result c.args.bytes.now c.in-Some.ensures.value has

pub returns-else-live : goal.returns-else-live
returns-else-live c =
    elim c.else-live.branch [
      | else-live-via-then-live+else-from-size w ↦ left_beyond c.args.memory.now c.args.number c.args.from c.in-Some.field-0-0 c.in-Some.live c.in-Some.size c.args.bytes.now c.in-Some.ensures.value (omega (arith, w.if-from-size.false))
      | else-live-via-else-live w ↦ left_dead c.args.memory.now c.args.number c.args.from c.in-Some.field-0-0 c.in-Some.live c.in-Some.size c.args.bytes.now c.in-Some.ensures.value w.if-live.false c.count.ensures.memory
    ]
