-- What each instruction does once its operands have been asked.
use Rattle.std.specs.Prelude.{ℕ, ◌*◌, ℤ, List, [], Option, Some}
use Rattle.dc_core.specs.Contract.{holds}
use Rattle.dc_core.specs.Run.{checked}
use Rattle.dc_memory.specs.Access.{store, copied, filled}
use Rattle.dc_memory.specs.Kinds.{size_of}
use Rattle.dc_num.specs.Conversions.{bits}
use Rattle.dc_num.specs.declared.kind.NumKind.{NumKind}
use Rattle.dc_num.specs.declared.kind.NumKind.TheVariants.{U8}
use Rattle.dc_program.specs.Kinds.{mem_kind}
use Rattle.dc_goto.specs.Program.{GotoProgram}
use Rattle.dc_goto.specs.declared.operands.Bytes.{Bytes}
use Rattle.dc_goto.specs.declared.operands.Sharing.{Sharing}
use Rattle.dc_goto.specs.Values.{as_length, as_pointer, is_heap_start, is_true}
use Rattle.dc_goto.specs.Acts.{Now, Then, Next, Enters, allocating, called, defined, freeing, is_covered, jumping, may_be_freed, may_copy, put, ranged, required, targeted, unless_undefined, with_memory, with_register, with_sets}

abbrev pub then_set : ℕ → ℤ → Now → Then
then_set r v t = Next [] (with_register r (Some v) t)

abbrev pub then_keep : ℕ → Option ℤ → Now → Then
then_keep r v t = Next [] (with_register r v t)

abbrev pub then_store : List ℕ → NumKind → ℤ → ℤ → Now → Then
then_store name kind q v u = put name (as_pointer q) (size_of (mem_kind kind)) (store (mem_kind kind) (as_pointer q) v u.world.memory) u

abbrev pub then_init : List ℕ → NumKind → ℤ → ℤ → Now → Then
then_init name kind q v u = defined name (store (mem_kind kind) (as_pointer q) v u.world.memory) u (λ memory. Next [] (with_memory memory u))

abbrev pub then_copy : List ℕ → ℤ → ℤ → ℤ → Now → Then
then_copy name to from len w = put name (as_pointer to) (as_length len) (copied (as_pointer to) (as_pointer from) (as_length len) w.world.memory) w

abbrev pub then_fill : List ℕ → ℤ → ℤ → ℤ → Now → Then
then_fill name to v len w = put name (as_pointer to) (as_length len) (filled (as_pointer to) (bits U8 v) (as_length len) w.world.memory) w

abbrev pub then_probe : List ℕ → Sharing → ℤ → ℤ → ℤ → Now → Then
then_probe name sharing one other len w = unless_undefined name (may_copy sharing w.world.memory (as_pointer one) (as_pointer other) (as_length len)) w

abbrev pub then_allocate : ℕ → Bytes → ℤ → ℤ → Now → Then
then_allocate r bytes count size u = allocating r bytes (as_length count * as_length size) u

abbrev pub then_free : List ℕ → ℤ → Now → Then
then_free name q t = freeing name (as_pointer q) (is_heap_start t.world.memory (as_pointer q)) t

abbrev pub then_jump : ℕ → ℤ → Now → Then
then_jump place v t = jumping place (is_true v) t

abbrev pub then_enter : Option ℕ → List ℕ → List ℤ → Now → Then
then_enter r function values t = Enters r function values t

abbrev pub then_enter_at : GotoProgram → List ℕ → Option ℕ → Option NumKind → List NumKind → ℤ → List ℤ → Now → Then
then_enter_at p name r result params q values u = defined name (called p result params (as_pointer q)) u (λ function. Enters r function values u)

abbrev pub then_assert : List ℕ → ℤ → Now → Then
then_assert test v t = Next (checked test (is_true v)) t

abbrev pub then_check : List ℕ → Option ℤ → Now → Then
then_check test v t = Next (checked test (holds v)) t

abbrev pub then_assume : ℤ → Now → Then
then_assume v t = required (is_true v) t

abbrev pub then_require : Option ℤ → Now → Then
then_require v t = required (holds v) t

abbrev pub then_range : ℕ → Option ℤ → Option ℤ → Option ℤ → Now → Then
then_range tag test q len w = Next [] (with_sets (ranged tag test q len w) w)

abbrev pub then_target : ℕ → Option ℤ → Option ℤ → Now → Then
then_target tag test q u = Next [] (with_sets (targeted tag test q u) u)

abbrev pub then_cover : List ℕ → Option ℤ → Option ℤ → Now → Then
then_cover test q len u = Next (checked test (is_covered q len u)) u

abbrev pub then_may_free : List ℕ → Option ℤ → Now → Then
then_may_free test q t = Next (checked test (may_be_freed q t)) t
