-- The sorts that objects are drawn of.
use Rattle.std.specs.Prelude.{ℕ}
use Rattle.dc_core.specs.Choices.{Draws}
use Rattle.dc_core.specs.Entry.{outside_object, new_object, with_drawn}
use Rattle.dc_memory.specs.declared.object.Object.{Object}
use Rattle.dc_memory.specs.Objects.{Memory}
use Rattle.dc_world.specs.declared.sorts.Sorts.{Sorts}
use Rattle.dc_world.specs.declared.sorts.Sorts.TheVariants.{Outside, New}

-- how many there are
abbrev pub count_of : Sorts → ℕ
count_of Outside = 4
count_of New = 3

-- an object of a number and a sort
abbrev pub object_of : Sorts → ℕ → ℕ → Draws Object
object_of Outside = outside_object
object_of New = new_object

-- the memory with objects of these sorts behind it
abbrev pub with_sorts : Sorts → Memory → Draws Memory
with_sorts sorts memory = with_drawn (count_of sorts) (object_of sorts) memory
