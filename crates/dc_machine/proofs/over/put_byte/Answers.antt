use Rattle.std.proofs.Common.{◌∷◌, [], sym}
use Rattle.dc_memory.specs.Places.{with_bytes}
use Rattle.dc_world.proofs.Changes.{changed-none, left_beyond, nothing-seen}
use Rattle.dc_machine.proofs.over.put_byte.Goals as goal

pub returns-in_default : goal.returns-in_default
returns-in_default c = sym (changed-none (with_bytes c.args.index (c.args.byte ∷ [])) c.args.memory.now c.args.number (nothing-seen c.args.memory.now c.args.number c.in_default.ensures.value))

pub returns-else-index-size : goal.returns-else-index-size
returns-else-index-size c = left_beyond c.args.memory.now c.args.number c.args.index c.in-Some.field-0-0 c.in-Some.field-0-1 c.in-Some.size (c.args.byte ∷ []) c.in-Some.ensures.value c.if-index-size.false
