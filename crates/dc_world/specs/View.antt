-- The values of the code as the plain data that the definitions speak of.
use Rattle.std.specs.Prelude.{List, map}
use Rattle.dc_memory.specs.declared.object.ObjKind.{ObjKind}
use Rattle.dc_memory.specs.declared.object.ObjKind.TheVariants as kind
use Rattle.dc_memory.specs.declared.object.Object.{Object}
use Rattle.dc_memory.specs.Objects.{Memory, holding}
use Rattle.dc_core.specs.Objects.{dead}
use Rattle.dc_world.specs.declared.fresh.Storage.{Storage}
use Rattle.dc_world.specs.declared.fresh.Storage.TheVariants as storage
use Rattle.dc_world.specs.declared.fresh.Fresh.{Fresh}
use Rattle.dc_world.specs.declared.fresh.Fresh.TheVariants as fresh

abbrev pub kind_view : Storage → ObjKind
kind_view storage.Static = kind.Static
kind_view storage.Heap = kind.Heap
kind_view storage.Stack = kind.Stack

-- the object that stands in a memory then
abbrev pub object_view : Fresh → Object
object_view (fresh.Dead storage) = dead (kind_view storage)
object_view (fresh.Live storage bytes) = holding (kind_view storage) bytes.items

abbrev pub objects_view : List Fresh → Memory
objects_view objects = map object_view objects
