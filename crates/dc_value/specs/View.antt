-- The values of the code as the plain data that the definitions speak of.
use Rattle.std.specs.Prelude.{Bool, false, Option, None, Some}
use Rattle.dc_goto.specs.Values as plain
use Rattle.dc_memory.specs.declared.object.ObjKind.{ObjKind}
use Rattle.dc_value.specs.declared.surroundings.Surroundings.{Surroundings}

abbrev pub surroundings_view : Surroundings → plain.Surroundings
surroundings_view s = record { regs = s.regs.now; memory = s.memory.now; sets = s.sets.now }

-- there is a kind, and it passes the test
abbrev pub some_kind : (ObjKind → Bool) → Option ObjKind → Bool
some_kind test None = false
some_kind test (Some kind) = test kind
