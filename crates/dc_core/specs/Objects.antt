-- Objects as runs make them and leave them.
use Rattle.std.specs.Prelude.{ℕ, suc, true, false, ◌&&◌, not, List, [], ◌∷◌, if◌then◌else◌}
use Rattle.dc_memory.specs.declared.object.ObjKind.{ObjKind}
use Rattle.dc_memory.specs.declared.object.ObjKind.TheVariants.{Function}
use Rattle.dc_memory.specs.declared.object.Object.{Object}
use Rattle.dc_memory.specs.Objects.{Memory, created, killed, changed, function_kind}
use Rattle.dc_memory.specs.Places.{with_bytes}

-- a function is live and has no bytes
abbrev pub function_object : Object
function_object = created Function true 0

-- an object that is dead from its creation on
abbrev pub dead : ObjKind → Object
dead kind = created kind false 0

-- a live object that isn't a function dies
abbrev pub died : Object → Object
died object = if object.live && not (function_kind object.kind) then killed object else object

-- the objects of these numbers die, one after the other
abbrev pub kill_all : List ℕ → Memory → Memory
kill_all [] memory = memory
kill_all (object ∷ objects) memory = kill_all objects (changed object died memory)

-- the bytes of these objects are written into those from a number on
abbrev pub rewritten : ℕ → List Object → Memory → Memory
rewritten number [] memory = memory
rewritten number (object ∷ objects) memory = rewritten (suc number) objects (changed number (with_bytes 0 object.bytes) memory)
