use Rattle.std.proofs.Common.{sym, ◌∙◌, refl}
use Rattle.dc_core.specs.Objects.{died}
use Rattle.dc_world.proofs.Changes.{changed-none, nothing-seen, dies, stays}
use Rattle.dc_world.proofs.memory.let_die.Goals as goal
use Rattle.dc_world.proofs.memory.let_die.Goals.{else-live-via-then-live+else-not-is_function, else-live-via-else-live}

pub returns-in_default : goal.returns-in_default
returns-in_default c = sym (changed-none died c.args.memory.now c.args.number (nothing-seen c.args.memory.now c.args.number c.in_default.ensures.value))

pub returns-then-not-is_function : goal.returns-then-not-is_function
returns-then-not-is_function c = c.kill.ensures ∙ dies c.args.memory.now c.args.number c.in-Some.kind c.in-Some.live c.in-Some.field-0-2 c.in-Some.ensures.value c.if-live.true (sym c.is_function.ensures ∙ c.if-not-is_function.true)

pub returns-else-live : goal.returns-else-live
returns-else-live c =
    elim c.else-live.branch [
      | else-live-via-then-live+else-not-is_function w ↦ stays c.args.memory.now c.args.number c.in-Some.kind c.in-Some.live c.in-Some.field-0-2 c.in-Some.ensures.value (rw (w.if-live.true, ← w.is_function.ensures, w.if-not-is_function.false) refl)
      | else-live-via-else-live w ↦ stays c.args.memory.now c.args.number c.in-Some.kind c.in-Some.live c.in-Some.field-0-2 c.in-Some.ensures.value (rw w.if-live.false refl)
    ]
