-- The memory and the arguments before anything of a program runs.
use Rattle.std.specs.Prelude.{ℕ, zero, suc, ◌-◌, ℤ, List, [], ◌∷◌, ◌++◌, length, map, replicate}
use Rattle.dc_num.specs.declared.kind.NumKind.{NumKind}
use Rattle.dc_num.specs.declared.kind.NumKind.TheVariants.{S32}
use Rattle.dc_core.specs.Event.{Create}
use Rattle.dc_core.specs.Choices.{Draws, ◌>>=◌, give, tell, draw, draw_bytes, draw_value}
use Rattle.dc_memory.specs.declared.object.ObjKind.{ObjKind}
use Rattle.dc_memory.specs.declared.object.ObjKind.TheVariants.{Static, Heap, Stack}
use Rattle.dc_memory.specs.declared.object.Object.{Object}
use Rattle.dc_memory.specs.Objects.{Memory, object_limit, size_limit, holding}
use Rattle.dc_core.specs.Objects.{dead, function_object}
use Rattle.dc_core.specs.Program.{Program}

-- file-scope variables of these sizes, each byte drawn
abbrev pub static_objects : List ℕ → Draws Memory
static_objects [] = give []
static_objects (size ∷ sizes) =
    draw_bytes size >>= λ bytes. static_objects sizes >>= λ objects. give (holding Static bytes ∷ objects)

-- a live object of this number: its size is drawn, then it is created, then each of its bytes is drawn
abbrev pub live_object : ℕ → ObjKind → Draws Object
live_object number kind =
    draw (suc size_limit) >>= λ size. tell (Create number) (draw_bytes size >>= λ bytes. give (holding kind bytes))

abbrev pub dead_object : ℕ → ObjKind → Draws Object
dead_object number kind = tell (Create number) (give (dead kind))

-- an object of this number, of the sort that was drawn for it
abbrev pub outside_object : ℕ → ℕ → Draws Object
outside_object number zero = dead_object number Heap
outside_object number (suc zero) = dead_object number Stack
outside_object number (suc (suc zero)) = live_object number Heap
outside_object number (suc (suc (suc k))) = live_object number Stack

-- an object that a replaced call or a contract loop brings, of the sort that was drawn for it
abbrev pub new_object : ℕ → ℕ → Draws Object
new_object number zero = dead_object number Heap
new_object number (suc zero) = dead_object number Stack
new_object number (suc (suc k)) = live_object number Heap

-- that many objects from this number on, each of one of so many sorts
abbrev pub drawn_objects : ℕ → (ℕ → ℕ → Draws Object) → ℕ → ℕ → Draws Memory
drawn_objects sorts of_sort number zero = give []
drawn_objects sorts of_sort number (suc n) =
    draw sorts >>= λ sort. of_sort number sort >>= λ object. drawn_objects sorts of_sort (suc number) n >>= λ objects. give (object ∷ objects)

-- the memory with such objects behind it; their count is drawn first
abbrev pub with_drawn : ℕ → (ℕ → ℕ → Draws Object) → Memory → Draws Memory
with_drawn sorts of_sort memory =
    draw (suc object_limit - length memory) >>= λ count. drawn_objects sorts of_sort (suc (length memory)) count >>= λ objects. give (memory ++ objects)

-- outside objects are of four sorts
abbrev pub outside_objects : ℕ → ℕ → Draws Memory
outside_objects = drawn_objects 4 outside_object

unfoldable pub with_outside : Memory → Draws Memory
with_outside memory = with_drawn 4 outside_object memory

-- new objects are of three
unfoldable pub with_new : Memory → Draws Memory
with_new memory = with_drawn 3 new_object memory

-- arguments of these kinds
abbrev pub draw_values : List NumKind → Draws (List ℤ)
draw_values [] = give []
draw_values (kind ∷ kinds) = draw_value kind >>= λ value. draw_values kinds >>= λ values. give (value ∷ values)

-- what there is before anything of a program runs
pub record Entered : Type 0 where
  pub memory : Memory
  pub arguments : List ℤ

-- the entry of a program with so many functions, with variables of file scope of these sizes and parameters of these kinds
abbrev pub entry : ℕ → List ℕ → List NumKind → Draws Entered
entry functions sizes kinds =
    static_objects sizes >>= λ statics. with_outside (replicate functions function_object ++ statics) >>= λ memory. draw_values kinds >>= λ arguments. give (record { memory = memory; arguments = arguments })

-- the sizes of the variables of file scope
abbrev pub static_sizes : Program → List ℕ
static_sizes p = map (λ name. 4) p.statics

-- the memory at entry: the function, the variables, the outside objects
abbrev pub entry_memory : Program → Draws Memory
entry_memory p = static_objects (static_sizes p) >>= λ statics. with_outside (function_object ∷ statics)

-- that many int arguments
abbrev pub draw_arguments : ℕ → Draws (List ℤ)
draw_arguments zero = give []
draw_arguments (suc n) = draw_value S32 >>= λ value. draw_arguments n >>= λ values. give (value ∷ values)
