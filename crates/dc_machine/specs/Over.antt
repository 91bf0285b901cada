-- Bytes that are drawn over those of a memory's objects.
use Rattle.std.specs.Prelude.{ℕ, List}
use Rattle.dc_core.specs.Choices.{Draws, ◌>>=◌, give, draw_bytes}
use Rattle.dc_core.specs.Entry.{static_objects}
use Rattle.dc_core.specs.Objects.{rewritten}
use Rattle.dc_memory.specs.Objects.{Memory, changed}
use Rattle.dc_memory.specs.Places.{with_bytes}

-- so many bytes of the object of the number are drawn, from an index on
abbrev pub overwritten : ℕ → ℕ → ℕ → Memory → Draws Memory
overwritten number from len memory = draw_bytes len >>= λ values. give (changed number (with_bytes from values) memory)

-- the bytes of variables of these sizes are drawn, whose objects stand from a number on
abbrev pub statics_overwritten : ℕ → List ℕ → Memory → Draws Memory
statics_overwritten number sizes memory = static_objects sizes >>= λ objects. give (rewritten number objects memory)
