-- What each instruction does.
use Rattle.std.specs.Prelude.{ℕ, zero, suc, ◌+◌, ◌-◌, ◌*◌, ◌==◌, ℤ, pos, Bool, true, false, ◌&&◌, ◌||◌, not, nat_le, nat_lt, nat_eq, List, [], ◌∷◌, ◌++◌, length, map, drop, take, replicate, Option, None, Some, slice_get, slice_set, if◌then◌else◌}
use Rattle.std.specs.Option.{option_map}
use Rattle.dc_core.specs.Choices.{Drawn, Drew, Dry, Draws, ◌>>=◌, give, tell, draw, draw_bytes, draw_value}
use Rattle.dc_core.specs.Contract.{holds}
use Rattle.dc_core.specs.Entry.{static_objects, with_outside, with_new}
use Rattle.dc_core.specs.Event.{Event, Check, Create, End, Free as Freed, Kill as Killed, Write}
use Rattle.dc_core.specs.Event as end
use Rattle.dc_core.specs.Objects.{died, kill_all, rewritten}
use Rattle.dc_core.specs.Run.{Note, Did, checked}
use Rattle.dc_core.specs.Term.{Term}
use Rattle.dc_core.specs.World.{World, is_full, next_object}
use Rattle.dc_memory.specs.declared.object.ObjKind.{ObjKind}
use Rattle.dc_memory.specs.declared.object.ObjKind.TheVariants.{Heap, Stack}
use Rattle.dc_memory.specs.Access.{store, copied, filled}
use Rattle.dc_memory.specs.Context.{Range, is_allowed}
use Rattle.dc_memory.specs.Kinds.{size_of}
use Rattle.dc_memory.specs.Objects.{Memory, changed, holding, is_live, size_limit}
use Rattle.dc_memory.specs.Places.{start_of, object_of, offset_of, is_inside, put_at, with_bytes, written}
use Rattle.dc_num.specs.Conversions.{bits}
use Rattle.dc_num.specs.declared.kind.NumKind.{NumKind}
use Rattle.dc_num.specs.declared.kind.NumKind.TheVariants.{U8}
use Rattle.dc_num.specs.declared.kind.NumKind.TheVariants as kind
use Rattle.dc_program.specs.Kinds.{mem_kind}
use Rattle.dc_writeset.specs.Sets.{PlainSets, TaggedRange, frees_of, innermost, is_free_allowed, is_inside_below, is_write_allowed, pushed, popped, ranges_of, with_free, with_freed, with_range}
use Rattle.dc_goto.specs.Program.{Instr, Set, Keep, Draw, Store, Init, Copy, Fill, Probe, Local, Kill, Alloc, Free, Trap, Goto, IfNot, Call, CallThrough, Return, Assert, Check as Tests, Assume, Require, Push, Pop, Range as Ranges, Target, Covers, MayFree, Inside, Seen, Havoc, Frees, Statics, OutsideObjects, NewObjects, GotoProgram, Sig}
use Rattle.dc_goto.specs.declared.operands.Bytes.{Bytes}
use Rattle.dc_goto.specs.declared.operands.Bytes.TheVariants.{Zero, Chosen}
use Rattle.dc_goto.specs.declared.operands.Sharing.{Sharing}
use Rattle.dc_goto.specs.declared.operands.Sharing.TheVariants.{Any, Apart}
use Rattle.dc_goto.specs.Values.{Registers, Surroundings, Valued, as_length, as_pointer, is_heap_start, is_no_function, is_true, points_to, term_value}

-- registers, write sets with all that was freed, seen objects, the world
pub record Now : Type 0 where
  pub regs : Registers
  pub sets : PlainSets
  pub seen : List ℕ
  pub world : World

-- the next instruction is next; one of another place is; the run ends; a function is called, its result for a register; the
-- body is left
pub data Then : Type 0 where
  Next : List Note → Now → Then
  Jumps : ℕ → Now → Then
  Ends : List Note → End → World → Then
  Enters : (result : Option ℕ) (name : List ℕ) (arguments : List ℤ) → Now → Then
  Leaves : Option ℤ → Now → Then

-- what was noted before
abbrev pub noted_before : List Note → Then → Then
noted_before before (Next notes s) = Next (before ++ notes) s
noted_before before (Jumps place s) = Jumps place s
noted_before before (Ends notes end w) = Ends (before ++ notes) end w
noted_before before (Enters result name arguments s) = Enters result name arguments s
noted_before before (Leaves value s) = Leaves value s

-- Operands ---------------------------------------------------------------------------------------------------------

abbrev pub surroundings : Now → Surroundings
surroundings s = record { regs = s.regs; memory = s.world.memory; sets = s.sets }

abbrev pub evaluated : Now → Term → Valued ℤ
evaluated s e = term_value (surroundings s) [] e s.seen

abbrev pub when_asked : Now → Valued ℤ → (Option ℤ → Now → Then) → Then
when_asked s v go = go v.value (record s { seen = v.seen })

-- a value or none, and what is done with it
abbrev pub asked : Now → Term → (Option ℤ → Now → Then) → Then
asked s e go = when_asked s (evaluated s e) go

-- the end as undefined in the running function, where there is none
abbrev pub defined : {A : Type 0} → List ℕ → Option A → Now → (A → Then) → Then
defined name None s go = Ends [] (end.Undefined name) s.world
defined name (Some v) s go = go v

-- a value, or that end
abbrev pub given : List ℕ → Now → Term → (ℤ → Now → Then) → Then
given name s e go = asked s e (λ v t. defined name v t (λ z. go z t))

abbrev pub all_given : List ℕ → Now → List Term → (List ℤ → Now → Then) → Then
all_given name s [] go = go [] s
all_given name s (e ∷ arguments) go = given name s e (λ v t. all_given name t arguments (λ values u. go (v ∷ values) u))

-- Registers and memory -----------------------------------------------------------------------------------------------

abbrev pub with_register : ℕ → Option ℤ → Now → Now
with_register r v s = record s { regs = slice_set s.regs r v }

abbrev pub with_memory : Memory → Now → Now
with_memory memory s = record s { world = record s.world { memory = memory } }

abbrev pub with_choices : List ℕ → Now → Now
with_choices choices s = record s { world = record s.world { choices = choices } }

-- what was drawn, or the end of the choices
abbrev pub drawn : {A : Type 0} → Drawn A → Now → (A → Now → Then) → Then
drawn (Drew v rest events) s go = noted_before (map Did events) (go v (with_choices rest s))
drawn (Dry events) s go = Ends (map Did events) end.ChoicesEnded (with_choices [] s).world

-- a write of so many bytes; of none at all it changes nothing and is no event, wherever it points
abbrev pub put : List ℕ → ℕ → ℕ → Option Memory → Now → Then
put name pointer zero memory s = Next [] s
put name pointer (suc n) memory s =
    defined name memory s (λ after. Next (Did (Write (object_of pointer) (offset_of pointer) (suc n)) ∷ []) (with_memory after s))

-- two ranges without a common byte
abbrev pub are_apart : ℕ → ℕ → ℕ → Bool
are_apart p q len =
    not (nat_eq (object_of p) (object_of q)) || nat_le (offset_of p + len) (offset_of q) || nat_le (offset_of q + len) (offset_of p)

abbrev pub may_share : Sharing → ℕ → ℕ → ℕ → Bool
may_share Any p q len = true
may_share Apart p q len = are_apart p q len

-- bytes may be copied from one range to the other
abbrev pub may_copy : Sharing → Memory → ℕ → ℕ → ℕ → Bool
may_copy sharing memory p q len = len == 0 || is_inside memory p len && is_inside memory q len && may_share sharing p q len

abbrev pub unless_undefined : List ℕ → Bool → Now → Then
unless_undefined name true s = Next [] s
unless_undefined name false s = Ends [] (end.Undefined name) s.world

-- the variables, which stand behind the functions, with these bytes
abbrev pub with_statics : GotoProgram → Memory → Memory → Memory
with_statics p statics memory = rewritten (suc (length p.functions)) statics memory

abbrev pub static_sizes : GotoProgram → List ℕ
static_sizes p = map (λ v. v.size) p.statics

-- Objects --------------------------------------------------------------------------------------------------------------

-- the first bytes of an object: zero, or each of them drawn
abbrev pub first_bytes : Bytes → ℕ → Draws (List ℕ)
first_bytes Zero size = give (replicate size 0)
first_bytes Chosen size = draw_bytes size

abbrev pub with_object : ObjKind → List ℕ → Now → Now
with_object kind bytes s = with_memory (s.world.memory ++ holding kind bytes ∷ []) s

abbrev pub with_local : ℕ → Now → Now
with_local object s = record s { world = record s.world { locals = object ∷ s.world.locals } }

-- an object of a kind, where one more may be; it is there before its bytes are drawn
abbrev pub object_created : ObjKind → Bytes → ℕ → Bool → Now → (ℕ → Now → Then) → Then
object_created kind bytes size true s go = Ends [] end.ObjectLimit s.world
object_created kind bytes size false s go =
    drawn (tell (Create (next_object s.world)) (first_bytes bytes size) s.world.choices) s
    (λ values t. go (next_object s.world) (with_object kind values t))

abbrev pub creating : ObjKind → Bytes → ℕ → Now → (ℕ → Now → Then) → Then
creating kind bytes size s go = object_created kind bytes size (is_full s.world) s go

-- null, or a new heap object, as is drawn
abbrev pub allocated : ℕ → Bytes → ℕ → ℕ → Now → Then
allocated r bytes size zero s = Next [] (with_register r (Some (pos 0)) s)
allocated r bytes size (suc n) s = creating Heap bytes size s (λ object t. Next [] (with_register r (Some (pos (start_of object))) t))

-- what is too large is null without a draw
abbrev pub allocating : ℕ → Bytes → ℕ → Now → Then
allocating r bytes size s =
    if nat_lt size_limit size then Next [] (with_register r (Some (pos 0)) s)
    else drawn (draw 2 s.world.choices) s (λ n t. allocated r bytes size n t)

-- the locals beyond the first so many die, newest first
abbrev pub newer : ℕ → List ℕ → List ℕ
newer m locals = take (length locals - m) locals

abbrev pub older : ℕ → List ℕ → List ℕ
older m locals = drop (length locals - m) locals

abbrev pub without_locals : ℕ → World → World
without_locals m w = record w { memory = kill_all (newer m w.locals) w.memory; locals = older m w.locals }

-- the object dies, and is noted as freed
abbrev pub freed : ℕ → Now → Now
freed object s = record (with_memory (changed object died s.world.memory) s) { sets = with_freed object s.sets }

abbrev pub freeing : List ℕ → ℕ → Bool → Now → Then
freeing name pointer true s = Next (Did (Freed (object_of pointer)) ∷ []) (freed (object_of pointer) s)
freeing name pointer false s = unless_undefined name (pointer == 0) s

-- Write sets -----------------------------------------------------------------------------------------------------------

-- a target denotes nothing where its condition doesn't hold, its place or length has no value, or its range is empty or isn't
-- wholly inside a live object that isn't a function
abbrev pub denotes : Memory → Bool → ℕ → ℕ → Bool
denotes memory test pointer len = test && nat_lt 0 len && points_to is_no_function memory pointer && is_inside memory pointer len

abbrev pub range_at : (tag pointer len : ℕ) → TaggedRange
range_at tag pointer len = record { tag = tag; range = record { object = object_of pointer; from = offset_of pointer; len = len } }

abbrev pub ranged : ℕ → Option ℤ → Option ℤ → Option ℤ → Now → PlainSets
ranged tag test None len s = s.sets
ranged tag test (Some p) None s = s.sets
ranged tag test (Some p) (Some n) s =
    if denotes s.world.memory (holds test) (as_pointer p) (as_length n) then with_range (range_at tag (as_pointer p) (as_length n)) s.sets
    else s.sets

abbrev pub targeted : ℕ → Option ℤ → Option ℤ → Now → PlainSets
targeted tag test None s = s.sets
targeted tag test (Some p) s =
    if holds test && is_heap_start s.world.memory (as_pointer p) then with_free (record { tag = tag; object = object_of (as_pointer p) }) s.sets else s.sets

abbrev pub with_sets : PlainSets → Now → Now
with_sets sets s = record s { sets = sets }

-- a write that isn't inside a live object, or is empty, is none
abbrev pub is_covered : Option ℤ → Option ℤ → Now → Bool
is_covered None len s = true
is_covered (Some p) None s = true
is_covered (Some p) (Some n) s =
    not (nat_lt 0 (as_length n) && is_inside s.world.memory (as_pointer p) (as_length n))
    || is_write_allowed (innermost s.sets.sets) (object_of (as_pointer p)) (offset_of (as_pointer p)) (as_length n)

-- freeing what is no start of a live heap object is judged elsewhere
abbrev pub may_be_freed : Option ℤ → Now → Bool
may_be_freed None s = true
may_be_freed (Some p) s = not (is_heap_start s.world.memory (as_pointer p)) || is_free_allowed (innermost s.sets.sets) (object_of (as_pointer p))

-- bytes of ranges, in their order: a later one overwrites an earlier one, and an object that doesn't live is passed over
abbrev pub havocked : List Range → Memory → Draws Memory
havocked [] memory = give memory
havocked (range ∷ ranges) memory =
    if is_live memory range.object then (draw_bytes range.len >>= λ values. havocked ranges (changed range.object (with_bytes range.from values) memory))
    else havocked ranges memory

-- an object that lives dies, is told as killed and noted as freed
abbrev pub killed_if : Bool → ℕ → Now → (Now → Then) → Then
killed_if true object s go = noted_before (Did (Killed object) ∷ []) (go (freed object s))
killed_if false object s go = go s

-- of objects in their order, those die that live and for which 1 is drawn
abbrev pub some_killed : List ℕ → Now → Then
some_killed [] s = Next [] s
some_killed (object ∷ objects) s =
    drawn (draw 2 s.world.choices) s (λ n t. killed_if (n == 1 && is_live t.world.memory object) object t (λ u. some_killed objects u))

-- Tests ----------------------------------------------------------------------------------------------------------------

abbrev pub required : Bool → Now → Then
required true s = Next [] s
required false s = Ends [] end.Blocked s.world

abbrev pub jumping : ℕ → Bool → Now → Then
jumping place true s = Next [] s
jumping place false s = Jumps place s

-- Calls ----------------------------------------------------------------------------------------------------------------

-- functions are the first objects, in their order
abbrev pub function_at : List Sig → ℕ → Option Sig
function_at functions zero = None
function_at functions (suc n) = slice_get functions n

-- kinds in an order of their own
abbrev pub kind_number : NumKind → ℕ
kind_number kind.Bool = 0
kind_number kind.S8 = 1
kind_number kind.U8 = 2
kind_number kind.S16 = 3
kind_number kind.U16 = 4
kind_number kind.S32 = 5
kind_number kind.U32 = 6
kind_number kind.S64 = 7
kind_number kind.U64 = 8
kind_number kind.Ptr = 9

abbrev pub is_kind : NumKind → NumKind → Bool
is_kind k l = kind_number k == kind_number l

abbrev pub same_kinds : List NumKind → List NumKind → Bool
same_kinds [] [] = true
same_kinds (k ∷ kinds) (l ∷ others) = is_kind k l && same_kinds kinds others
same_kinds kinds others = false

abbrev pub same_result : Option NumKind → Option NumKind → Bool
same_result None None = true
same_result (Some k) (Some l) = is_kind k l
same_result k l = false

abbrev pub same_signature : Option NumKind → List NumKind → Sig → Bool
same_signature result params sig = same_result result sig.result && same_kinds params sig.params

-- the name of a function that has the signature
abbrev pub called_at : Option NumKind → List NumKind → Option Sig → Option (List ℕ)
called_at result params None = None
called_at result params (Some sig) = if same_signature result params sig then Some sig.name else None

-- the function whose start the pointer is, where that has the signature
abbrev pub called : GotoProgram → Option NumKind → List NumKind → ℕ → Option (List ℕ)
called p result params pointer = if offset_of pointer == 0 then called_at result params (function_at p.functions (object_of pointer)) else None

abbrev pub returned : List ℕ → Now → Option Term → Then
returned name s None = Leaves None s
returned name s (Some e) = given name s e (λ v t. Leaves (Some v) t)

-- Instructions ---------------------------------------------------------------------------------------------------------

-- one instruction of the function of this name
abbrev pub act : GotoProgram → List ℕ → Instr → Now → Then
act p name (Set r e) s = given name s e (λ v t. Next [] (with_register r (Some v) t))
act p name (Keep r e) s = asked s e (λ v t. Next [] (with_register r v t))
act p name (Draw r kind) s = drawn (draw_value kind s.world.choices) s (λ v t. Next [] (with_register r (Some v) t))
act p name (Store kind a e) s =
    given name s a (λ q t. given name t e (λ v u. put name (as_pointer q) (size_of (mem_kind kind)) (store (mem_kind kind) (as_pointer q) v u.world.memory) u))
act p name (Init kind a e) s =
    given name s a (λ q t. given name t e (λ v u. defined name (store (mem_kind kind) (as_pointer q) v u.world.memory) u (λ memory. Next [] (with_memory memory u))))
act p name (Copy a b n) s =
    given name s a (λ to t. given name t b (λ from u. given name u n (λ len w.
    put name (as_pointer to) (as_length len) (copied (as_pointer to) (as_pointer from) (as_length len) w.world.memory) w)))
act p name (Fill a e n) s =
    given name s a (λ to t. given name t e (λ v u. given name u n (λ len w.
    put name (as_pointer to) (as_length len) (filled (as_pointer to) (bits U8 v) (as_length len) w.world.memory) w)))
act p name (Probe sharing a b n) s =
    given name s a (λ one t. given name t b (λ other u. given name u n (λ len w.
    unless_undefined name (may_copy sharing w.world.memory (as_pointer one) (as_pointer other) (as_length len)) w)))
act p name (Local r size bytes) s = creating Stack bytes size s (λ object t. Next [] (with_register r (Some (pos (start_of object))) (with_local object t)))
act p name (Kill m) s = Next (map (λ object. Did (Killed object)) (newer m s.world.locals)) (record s { world = without_locals m s.world })
act p name (Alloc r a b bytes) s =
    given name s a (λ count t. given name t b (λ size u. allocating r bytes (as_length count * as_length size) u))
act p name (Free e) s = given name s e (λ q t. freeing name (as_pointer q) (is_heap_start t.world.memory (as_pointer q)) t)
act p name Trap s = Ends [] (end.Undefined name) s.world
act p name (Goto place) s = Jumps place s
act p name (IfNot e place) s = given name s e (λ v t. jumping place (is_true v) t)
act p name (Call r function arguments) s = all_given name s arguments (λ values t. Enters r function values t)
act p name (CallThrough r e result params arguments) s =
    given name s e (λ q t. all_given name t arguments (λ values u. defined name (called p result params (as_pointer q)) u (λ function. Enters r function values u)))
act p name (Return value) s = returned name s value
act p name (Assert test e) s = given name s e (λ v t. Next (checked test (is_true v)) t)
act p name (Tests test e) s = asked s e (λ v t. Next (checked test (holds v)) t)
act p name (Assume e) s = given name s e (λ v t. required (is_true v) t)
act p name (Require e) s = asked s e (λ v t. required (holds v) t)
act p name Push s = Next [] (with_sets (pushed (length s.world.memory) s.sets) s)
act p name Pop s = Next [] (with_sets (popped s.sets) s)
act p name (Ranges tag e a n) s =
    asked s e (λ test t. asked t a (λ q u. asked u n (λ len w. Next [] (with_sets (ranged tag test q len w) w))))
act p name (Target tag e a) s = asked s e (λ test t. asked t a (λ q u. Next [] (with_sets (targeted tag test q u) u)))
act p name (Covers test a n) s = asked s a (λ q t. asked t n (λ len u. Next (checked test (is_covered q len u)) u))
act p name (MayFree test e) s = asked s e (λ q t. Next (checked test (may_be_freed q t)) t)
act p name (Inside test tag) s = Next (checked test (is_inside_below s.sets.sets tag)) s
act p name Seen s = Next [] (record s { seen = [] })
act p name Havoc s = drawn (havocked (map (λ r. r.range) (ranges_of (innermost s.sets.sets))) s.world.memory s.world.choices) s (λ memory t. Next [] (with_memory memory t))
act p name Frees s = some_killed (map (λ f. f.object) (frees_of (innermost s.sets.sets))) s
act p name Statics s =
    drawn (static_objects (static_sizes p) s.world.choices) s (λ statics t. Next [] (with_memory (with_statics p statics t.world.memory) t))
act p name OutsideObjects s = drawn (with_outside s.world.memory s.world.choices) s (λ memory t. Next [] (with_memory memory t))
act p name NewObjects s = drawn (with_new s.world.memory s.world.choices) s (λ memory t. Next [] (with_memory memory t))
