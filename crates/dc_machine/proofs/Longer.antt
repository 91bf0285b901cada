-- More choices behind those that a run takes change nothing.
use Rattle.std.proofs.Common.{◌≡◌, ℕ, zero, suc, ◌-◌, ◌*◌, ◌==◌, ℤ, pos, Bool, true, false, ◌&&◌, List, [], ◌∷◌, ◌++◌, length, map, Option, None, Some, refl, sym, ap, subst, ◌∙◌, arith, append-nil, length-append, inl, inr, ◌⊎◌}
use Rattle.std.specs.Prelude.{slice_get, nat_lt, codes, if◌then◌else◌}
use Rattle.dc_num.specs.declared.kind.NumKind.{NumKind}
use Rattle.dc_core.specs.Event as end
use Rattle.dc_core.specs.Event.{Event, Create, Kill as Killed, End, Returned, Blocked, Undefined, NoBody, ObjectLimit, DepthLimit, ChoicesEnded, Cut}
use Rattle.dc_core.specs.Choices.{Drawn, Drew, Dry, Draws, after, bind, ◌>>=◌, give, tell, draw, draw_bytes, draw_value}
use Rattle.dc_memory.specs.declared.object.ObjKind.{ObjKind}
use Rattle.dc_memory.specs.declared.object.ObjKind.TheVariants.{Heap, Stack}
use Rattle.dc_memory.specs.declared.object.Object.{Object}
use Rattle.dc_memory.specs.Context.{Range}
use Rattle.dc_memory.specs.Objects.{Memory, changed, is_live, size_limit}
use Rattle.dc_memory.specs.Places.{start_of, with_bytes}
use Rattle.dc_memory.specs.Access.{store, copied, filled}
use Rattle.dc_memory.specs.Kinds.{size_of}
use Rattle.dc_num.specs.Conversions.{bits}
use Rattle.dc_num.specs.declared.kind.NumKind.TheVariants.{U8}
use Rattle.dc_program.specs.Kinds.{mem_kind}
use Rattle.dc_core.specs.Entry.{static_objects, live_object, dead_object, outside_object, new_object, drawn_objects, with_drawn, with_outside, with_new}
use Rattle.dc_core.specs.World.{World, is_full, next_object}
use Rattle.dc_core.specs.Contract.{holds}
use Rattle.dc_core.specs.Run.{Note, Did, checked}
use Rattle.dc_world.specs.Reported.{dry_at}
use Rattle.dc_core.specs.Term.{Term}
use Rattle.dc_writeset.specs.Sets.{frees_of, innermost, ranges_of}
use Rattle.dc_goto.specs.Program.{Instr, Set, Keep, Draw, Store, Init, Copy, Fill, Probe, Local, Kill, Alloc, Free, Trap, Goto, IfNot, Call, CallThrough, Return, Assert, Check, Assume, Require, Push, Pop, Range as Ranges, Target, Covers, MayFree, Inside, Seen, Havoc, Frees, Statics, OutsideObjects, NewObjects, Body, GotoProgram}
use Rattle.dc_goto.specs.declared.operands.Bytes.{Bytes}
use Rattle.dc_goto.specs.declared.operands.Bytes.TheVariants.{Zero, Chosen}
use Rattle.dc_goto.specs.Values.{as_length, as_pointer, is_heap_start, is_true}
use Rattle.dc_goto.specs.Acts.{Now, Then, Next, Jumps, Ends, Enters, Leaves, noted_before, evaluated, asked, defined, given, all_given, drawn, with_choices, with_register, with_memory, with_sets, with_object, put, unless_undefined, first_bytes, object_created, allocated, allocating, freed, freeing, ranged, targeted, is_covered, may_be_freed, havocked, killed_if, some_killed, required, jumping, called, returned, static_sizes, may_copy, with_local, with_statics, act}
use Rattle.dc_machine.proofs.Going.{then_set, then_keep, then_store, then_init, then_copy, then_fill, then_probe, then_allocate, then_free, then_jump, then_enter, then_enter_at, then_assert, then_check, then_assume, then_require, then_range, then_target, then_cover, then_may_free}
use Rattle.dc_goto.specs.Machine.{function_number, Frame, Machine, Run, Going, Stopped, noted, go_on, body_of, entered_body, depth_limit, entered, left_body, proceed, step_at, step, steps, start_at, start, seen_run, goto_run}

-- Draws -----------------------------------------------------------------------------------------------------------

-- the same was drawn from the same choices with more behind them
abbrev SameDrawn : {A : Type 0} → List ℕ → Drawn A → Drawn A → Type 0
SameDrawn rest (Drew value left events) d = d ≡ Drew value (left ++ rest) events
SameDrawn rest (Dry events) d = Unit {0}

abbrev TakesOnly : {A : Type 0} → Draws A → Type 0
TakesOnly draws = (choices rest : List ℕ) → SameDrawn rest (draws choices) (draws (choices ++ rest))

after_same : {A : Type 0} (rest : List ℕ) (events : List Event) (x y : Drawn A) → SameDrawn rest x y → SameDrawn rest (after events x) (after events y)
after_same rest events (Drew value left more) y s = ap (after events) s
after_same rest events (Dry more) y s = tt

bind_same : {A B : Type 0} (rest : List ℕ) (x y : Drawn A) (f : A → Draws B) → SameDrawn rest x y → ((a : A) → TakesOnly (f a)) → SameDrawn rest (bind x f) (bind y f)
bind_same rest (Drew value left events) y f s h =
    subst (λ y. SameDrawn rest (after events (f value left)) (bind y f)) (sym s) (after_same rest events (f value left) (f value (left ++ rest)) (h value left rest))
bind_same rest (Dry events) y f s h = tt

then_takes : {A B : Type 0} (draws : Draws A) (f : A → Draws B) → TakesOnly draws → ((a : A) → TakesOnly (f a)) → TakesOnly (draws >>= f)
then_takes draws f s h choices rest = bind_same rest (draws choices) (draws (choices ++ rest)) f (s choices rest) h

give_takes : {A : Type 0} (value : A) → TakesOnly (give value)
give_takes value choices rest = refl

tell_takes : {A : Type 0} (event : Event) (draws : Draws A) → TakesOnly draws → TakesOnly (tell event draws)
tell_takes event draws s choices rest = after_same rest (event ∷ []) (draws choices) (draws (choices ++ rest)) (s choices rest)

draw_takes : (k : ℕ) → TakesOnly (draw k)
draw_takes k [] rest = tt
draw_takes k (number ∷ choices) rest = refl

bytes_take : (n : ℕ) → TakesOnly (draw_bytes n)
bytes_take zero = give_takes []
bytes_take (suc n) =
    then_takes (draw 256) (λ byte. draw_bytes n >>= λ bytes. give (byte ∷ bytes)) (draw_takes 256)
    (λ byte. then_takes (draw_bytes n) (λ bytes. give (byte ∷ bytes)) (bytes_take n) (λ bytes. give_takes (byte ∷ bytes)))

value_takes : (kind : NumKind) → TakesOnly (draw_value kind)
value_takes kind = then_takes (draw _) _ (draw_takes _) (λ number. give_takes _)

statics_take : (sizes : List ℕ) → TakesOnly (static_objects sizes)
statics_take [] = give_takes []
statics_take (size ∷ sizes) =
    then_takes (draw_bytes size) _ (bytes_take size)
    (λ bytes. then_takes (static_objects sizes) _ (statics_take sizes) (λ objects. give_takes _))

live_takes : (number : ℕ) (kind : ObjKind) → TakesOnly (live_object number kind)
live_takes number kind =
    then_takes (draw _) _ (draw_takes _)
    (λ size. tell_takes _ (draw_bytes size >>= _) (then_takes (draw_bytes size) _ (bytes_take size) (λ bytes. give_takes _)))

dead_takes : (number : ℕ) (kind : ObjKind) → TakesOnly (dead_object number kind)
dead_takes number kind = tell_takes _ (give _) (give_takes _)

object_takes : (number sort : ℕ) → TakesOnly (outside_object number sort)
object_takes number zero = dead_takes number _
object_takes number (suc zero) = dead_takes number _
object_takes number (suc (suc zero)) = live_takes number _
object_takes number (suc (suc (suc k))) = live_takes number _

new_takes : (number sort : ℕ) → TakesOnly (new_object number sort)
new_takes number zero = dead_takes number _
new_takes number (suc zero) = dead_takes number _
new_takes number (suc (suc k)) = live_takes number _

objects_take : (sorts : ℕ) (of_sort : ℕ → ℕ → Draws Object) → ((number sort : ℕ) → TakesOnly (of_sort number sort)) → (number n : ℕ) → TakesOnly (drawn_objects sorts of_sort number n)
objects_take sorts of_sort h number zero = give_takes []
objects_take sorts of_sort h number (suc n) =
    then_takes (draw sorts) _ (draw_takes sorts)
    (λ sort. then_takes (of_sort number sort) _ (h number sort)
    (λ object. then_takes (drawn_objects sorts of_sort (suc number) n) _ (objects_take sorts of_sort h (suc number) n) (λ objects. give_takes _)))

with_drawn_takes : (sorts : ℕ) (of_sort : ℕ → ℕ → Draws Object) → ((number sort : ℕ) → TakesOnly (of_sort number sort)) → (memory : Memory) → TakesOnly (with_drawn sorts of_sort memory)
with_drawn_takes sorts of_sort h memory =
    then_takes (draw _) _ (draw_takes _)
    (λ count. then_takes (drawn_objects sorts of_sort (suc (length memory)) count) _ (objects_take sorts of_sort h (suc (length memory)) count) (λ objects. give_takes _))

outside_takes : (memory : Memory) → TakesOnly (with_outside memory)
unfolding with_outside
outside_takes memory = with_drawn_takes 4 outside_object object_takes memory

new_objects_take : (memory : Memory) → TakesOnly (with_new memory)
unfolding with_new
new_objects_take memory = with_drawn_takes 3 new_object new_takes memory

first_bytes_take : (bytes : Bytes) (size : ℕ) → TakesOnly (first_bytes bytes size)
first_bytes_take Zero size = give_takes _
first_bytes_take Chosen size = bytes_take size

if_takes : {A : Type 0} (b : Bool) (x y : Draws A) → TakesOnly x → TakesOnly y → TakesOnly (λ choices. (if b then x else y) choices)
if_takes true x y g h = g
if_takes false x y g h = h

havoc_takes : (ranges : List Range) (memory : Memory) → TakesOnly (havocked ranges memory)
havoc_takes [] memory = give_takes memory
havoc_takes (range ∷ ranges) memory =
    if_takes (is_live memory range.object) (draw_bytes range.len >>= λ values. havocked ranges (changed range.object (with_bytes range.from values) memory)) (havocked ranges memory)
    (then_takes (draw_bytes range.len) _ (bytes_take range.len) (λ values. havoc_takes ranges (changed range.object (with_bytes range.from values) memory)))
    (havoc_takes ranges memory)

-- Instructions ----------------------------------------------------------------------------------------------------

-- the same world with more choices
abbrev more : List ℕ → World → World
more rest w = record w { choices = w.choices ++ rest }

abbrev more_now : List ℕ → Now → Now
more_now rest s = record s { world = more rest s.world }

abbrev SameThen : List ℕ → Then → Then → Type 0
SameThen rest (Next notes s) t = t ≡ Next notes (more_now rest s)
SameThen rest (Jumps place s) t = t ≡ Jumps place (more_now rest s)
SameThen rest (Ends notes end w) t = (end ≡ ChoicesEnded → ⊥) → t ≡ Ends notes end (more rest w)
SameThen rest (Enters register name values s) t = t ≡ Enters register name values (more_now rest s)
SameThen rest (Leaves value s) t = t ≡ Leaves value (more_now rest s)

-- what follows from a value and a state is the same with more choices
abbrev SameGo : {A : Type 0} → List ℕ → (A → Now → Then) → Type 0
SameGo {A} rest go = (v : A) (s : Now) → SameThen rest (go v s) (go v (more_now rest s))

asked_same : (rest : List ℕ) (s : Now) (e : Term) (go : Option ℤ → Now → Then) → SameGo rest go → SameThen rest (asked s e go) (asked (more_now rest s) e go)
asked_same rest s e go h = h (evaluated s e).value (record s { seen = (evaluated s e).seen })

defined_same : {A : Type 0} (rest name : List ℕ) (o : Option A) (s : Now) (go go' : A → Then) → ((v : A) → SameThen rest (go v) (go' v)) → SameThen rest (defined name o s go) (defined name o (more_now rest s) go')
defined_same rest name None s go go' h = λ n. refl
defined_same rest name (Some v) s go go' h = h v

given_same : (rest name : List ℕ) (s : Now) (e : Term) (go : ℤ → Now → Then) → SameGo rest go → SameThen rest (given name s e go) (given name (more_now rest s) e go)
given_same rest name s e go h =
    asked_same rest s e (λ v t. defined name v t (λ z. go z t)) (λ v t. defined_same rest name v t (λ z. go z t) (λ z. go z (more_now rest t)) (λ z. h z t))

all_given_same : (rest name : List ℕ) (s : Now) (arguments : List Term) (go : List ℤ → Now → Then) → SameGo rest go → SameThen rest (all_given name s arguments go) (all_given name (more_now rest s) arguments go)
all_given_same rest name s [] go h = h [] s
all_given_same rest name s (e ∷ arguments) go h =
    given_same rest name s e (λ v t. all_given name t arguments (λ values u. go (v ∷ values) u))
    (λ v t. all_given_same rest name t arguments (λ values u. go (v ∷ values) u) (λ values u. h (v ∷ values) u))

before_same : (rest : List ℕ) (notes : List Note) (t t' : Then) → SameThen rest t t' → SameThen rest (noted_before notes t) (noted_before notes t')
before_same rest notes (Next more s) t' e = ap (noted_before notes) e
before_same rest notes (Jumps place s) t' e = ap (noted_before notes) e
before_same rest notes (Ends more end w) t' e = λ n. ap (noted_before notes) (e n)
before_same rest notes (Enters register name values s) t' e = ap (noted_before notes) e
before_same rest notes (Leaves value s) t' e = ap (noted_before notes) e

drawn_same : {A : Type 0} (rest : List ℕ) (x y : Drawn A) (s : Now) (go : A → Now → Then) → SameDrawn rest x y → SameGo rest go → SameThen rest (drawn x s go) (drawn y (more_now rest s) go)
drawn_same rest (Drew v left events) y s go e h =
    subst (λ y. SameThen rest (noted_before (map Did events) (go v (with_choices left s))) (drawn y (more_now rest s) go)) (sym e)
    (before_same rest (map Did events) (go v (with_choices left s)) (go v (more_now rest (with_choices left s))) (h v (with_choices left s)))
drawn_same rest (Dry events) y s go e h = λ n. absurd (n refl)

if_same : (rest : List ℕ) (b : Bool) (x y x' y' : Then) → SameThen rest x x' → SameThen rest y y' → SameThen rest (if b then x else y) (if b then x' else y')
if_same rest true x y x' y' g h = g
if_same rest false x y x' y' g h = h

put_same : (rest name : List ℕ) (pointer n : ℕ) (memory : Option Memory) (s : Now) → SameThen rest (put name pointer n memory s) (put name pointer n memory (more_now rest s))
put_same rest name pointer zero memory s = refl
put_same rest name pointer (suc n) memory s = defined_same rest name memory s _ _ (λ after. refl)

unless_same : (rest name : List ℕ) (b : Bool) (s : Now) → SameThen rest (unless_undefined name b s) (unless_undefined name b (more_now rest s))
unless_same rest name true s = refl
unless_same rest name false s = λ n. refl

created_same : (rest : List ℕ) (kind : ObjKind) (bytes : Bytes) (size : ℕ) (full : Bool) (s : Now) (go : ℕ → Now → Then) → SameGo rest go
    → SameThen rest (object_created kind bytes size full s go) (object_created kind bytes size full (more_now rest s) go)
created_same rest kind bytes size true s go h = λ n. refl
created_same rest kind bytes size false s go h =
    drawn_same rest (tell (Create (next_object s.world)) (first_bytes bytes size) s.world.choices) (tell (Create (next_object s.world)) (first_bytes bytes size) (s.world.choices ++ rest)) s
    (λ values t. go (next_object s.world) (with_object kind values t))
    (tell_takes (Create (next_object s.world)) (first_bytes bytes size) (first_bytes_take bytes size) s.world.choices rest)
    (λ values t. h (next_object s.world) (with_object kind values t))

allocated_same : (rest : List ℕ) (r : ℕ) (bytes : Bytes) (size n : ℕ) (s : Now) → SameThen rest (allocated r bytes size n s) (allocated r bytes size n (more_now rest s))
allocated_same rest r bytes size zero s = refl
allocated_same rest r bytes size (suc n) s =
    created_same rest Heap bytes size (is_full s.world) s (λ object t. Next [] (with_register r (Some (pos (start_of object))) t)) (λ object t. refl)

allocating_same : (rest : List ℕ) (r : ℕ) (bytes : Bytes) (size : ℕ) (s : Now) → SameThen rest (allocating r bytes size s) (allocating r bytes size (more_now rest s))
allocating_same rest r bytes size s =
    if_same rest (nat_lt size_limit size) _ _ _ _ refl
    (drawn_same rest (draw 2 s.world.choices) (draw 2 (s.world.choices ++ rest)) s (λ n t. allocated r bytes size n t) (draw_takes 2 s.world.choices rest) (λ n t. allocated_same rest r bytes size n t))

freeing_same : (rest name : List ℕ) (pointer : ℕ) (b : Bool) (s : Now) → SameThen rest (freeing name pointer b s) (freeing name pointer b (more_now rest s))
freeing_same rest name pointer true s = refl
freeing_same rest name pointer false s = unless_same rest name (pointer == 0) s

ranged_same : (rest : List ℕ) (tag : ℕ) (test p n : Option ℤ) (s : Now) → ranged tag test p n (more_now rest s) ≡ ranged tag test p n s
ranged_same rest tag test None n s = refl
ranged_same rest tag test (Some p) None s = refl
ranged_same rest tag test (Some p) (Some n) s = refl

targeted_same : (rest : List ℕ) (tag : ℕ) (test p : Option ℤ) (s : Now) → targeted tag test p (more_now rest s) ≡ targeted tag test p s
targeted_same rest tag test None s = refl
targeted_same rest tag test (Some p) s = refl

covered_same : (rest : List ℕ) (p n : Option ℤ) (s : Now) → is_covered p n (more_now rest s) ≡ is_covered p n s
covered_same rest None n s = refl
covered_same rest (Some p) None s = refl
covered_same rest (Some p) (Some n) s = refl

may_be_freed_same : (rest : List ℕ) (p : Option ℤ) (s : Now) → may_be_freed p (more_now rest s) ≡ may_be_freed p s
may_be_freed_same rest None s = refl
may_be_freed_same rest (Some p) s = refl

killed_same : (rest : List ℕ) (b : Bool) (object : ℕ) (s : Now) (go : Now → Then) → ((s : Now) → SameThen rest (go s) (go (more_now rest s))) → SameThen rest (killed_if b object s go) (killed_if b object (more_now rest s) go)
killed_same rest true object s go h = before_same rest (Did (Killed object) ∷ []) (go (freed object s)) (go (more_now rest (freed object s))) (h (freed object s))
killed_same rest false object s go h = h s

some_killed_same : (rest : List ℕ) (objects : List ℕ) (s : Now) → SameThen rest (some_killed objects s) (some_killed objects (more_now rest s))
some_killed_same rest [] s = refl
some_killed_same rest (object ∷ objects) s =
    drawn_same rest (draw 2 s.world.choices) (draw 2 (s.world.choices ++ rest)) s (λ n t. killed_if (n == 1 && is_live t.world.memory object) object t (λ u. some_killed objects u))
    (draw_takes 2 s.world.choices rest)
    (λ n t. killed_same rest (n == 1 && is_live t.world.memory object) object t (λ u. some_killed objects u) (some_killed_same rest objects))

required_same : (rest : List ℕ) (test : Bool) (s : Now) → SameThen rest (required test s) (required test (more_now rest s))
required_same rest true s = refl
required_same rest false s = λ n. refl

jumping_same : (rest : List ℕ) (place : ℕ) (test : Bool) (s : Now) → SameThen rest (jumping place test s) (jumping place test (more_now rest s))
jumping_same rest place true s = refl
jumping_same rest place false s = refl

returned_same : (rest name : List ℕ) (s : Now) (value : Option Term) → SameThen rest (returned name s value) (returned name (more_now rest s) value)
returned_same rest name s None = refl
returned_same rest name s (Some e) = given_same rest name s e (λ v t. Leaves (Some v) t) (λ v t. refl)

act_same : (rest : List ℕ) (p : GotoProgram) (name : List ℕ) (i : Instr) (s : Now) → SameThen rest (act p name i s) (act p name i (more_now rest s))
act_same rest p name (Set r e) s = given_same rest name s e (then_set r) (λ v t. refl)
act_same rest p name (Keep r e) s = asked_same rest s e (then_keep r) (λ v t. refl)
act_same rest p name (Draw r kind) s =
    drawn_same rest (draw_value kind s.world.choices) (draw_value kind (s.world.choices ++ rest)) s (then_set r) (value_takes kind s.world.choices rest) (λ v t. refl)
act_same rest p name (Store kind a e) s =
    given_same rest name s a (λ q t. given name t e (then_store name kind q))
    (λ q t. given_same rest name t e (then_store name kind q) (λ v u. put_same rest name (as_pointer q) (size_of (mem_kind kind)) (store (mem_kind kind) (as_pointer q) v u.world.memory) u))
act_same rest p name (Init kind a e) s =
    given_same rest name s a (λ q t. given name t e (then_init name kind q))
    (λ q t. given_same rest name t e (then_init name kind q)
    (λ v u. defined_same rest name (store (mem_kind kind) (as_pointer q) v u.world.memory) u (λ memory. Next [] (with_memory memory u)) (λ memory. Next [] (with_memory memory (more_now rest u))) (λ memory. refl)))
act_same rest p name (Copy a b n) s =
    given_same rest name s a (λ to t. given name t b (λ from u. given name u n (then_copy name to from)))
    (λ to t. given_same rest name t b (λ from u. given name u n (then_copy name to from))
    (λ from u. given_same rest name u n (then_copy name to from) (λ len w. put_same rest name (as_pointer to) (as_length len) (copied (as_pointer to) (as_pointer from) (as_length len) w.world.memory) w)))
act_same rest p name (Fill a e n) s =
    given_same rest name s a (λ to t. given name t e (λ v u. given name u n (then_fill name to v)))
    (λ to t. given_same rest name t e (λ v u. given name u n (then_fill name to v))
    (λ v u. given_same rest name u n (then_fill name to v) (λ len w. put_same rest name (as_pointer to) (as_length len) (filled (as_pointer to) (bits U8 v) (as_length len) w.world.memory) w)))
act_same rest p name (Probe sharing a b n) s =
    given_same rest name s a (λ to t. given name t b (λ from u. given name u n (then_probe name sharing to from)))
    (λ to t. given_same rest name t b (λ from u. given name u n (then_probe name sharing to from))
    (λ from u. given_same rest name u n (then_probe name sharing to from) (λ len w. unless_same rest name (may_copy sharing w.world.memory (as_pointer to) (as_pointer from) (as_length len)) w)))
act_same rest p name (Local r size bytes) s =
    created_same rest Stack bytes size (is_full s.world) s (λ object t. Next [] (with_register r (Some (pos (start_of object))) (with_local object t))) (λ object t. refl)
act_same rest p name (Kill m) s = refl
act_same rest p name (Alloc r a b bytes) s =
    given_same rest name s a (λ count t. given name t b (then_allocate r bytes count))
    (λ count t. given_same rest name t b (then_allocate r bytes count) (λ size u. allocating_same rest r bytes (as_length count * as_length size) u))
act_same rest p name (Free e) s = given_same rest name s e (then_free name) (λ q t. freeing_same rest name (as_pointer q) (is_heap_start t.world.memory (as_pointer q)) t)
act_same rest p name Trap s = λ n. refl
act_same rest p name (Goto place) s = refl
act_same rest p name (IfNot e place) s = given_same rest name s e (then_jump place) (λ v t. jumping_same rest place (is_true v) t)
act_same rest p name (Call r function arguments) s = all_given_same rest name s arguments (then_enter r function) (λ values t. refl)
act_same rest p name (CallThrough r e result params arguments) s =
    given_same rest name s e (λ q t. all_given name t arguments (then_enter_at p name r result params q))
    (λ q t. all_given_same rest name t arguments (then_enter_at p name r result params q)
    (λ values u. defined_same rest name (called p result params (as_pointer q)) u (λ function. Enters r function values u) (λ function. Enters r function values (more_now rest u)) (λ function. refl)))
act_same rest p name (Return value) s = returned_same rest name s value
act_same rest p name (Assert check e) s = given_same rest name s e (then_assert check) (λ v t. refl)
act_same rest p name (Check check e) s = asked_same rest s e (then_check check) (λ v t. refl)
act_same rest p name (Assume e) s = given_same rest name s e then_assume (λ v t. required_same rest (is_true v) t)
act_same rest p name (Require e) s = asked_same rest s e then_require (λ v t. required_same rest (holds v) t)
act_same rest p name Push s = refl
act_same rest p name Pop s = refl
act_same rest p name (Ranges tag e a n) s =
    asked_same rest s e (λ test t. asked t a (λ q u. asked u n (then_range tag test q)))
    (λ test t. asked_same rest t a (λ q u. asked u n (then_range tag test q))
    (λ q u. asked_same rest u n (then_range tag test q) (λ len w. ap (λ sets. Next [] (with_sets sets (more_now rest w))) (ranged_same rest tag test q len w))))
act_same rest p name (Target tag e a) s =
    asked_same rest s e (λ test t. asked t a (then_target tag test))
    (λ test t. asked_same rest t a (then_target tag test) (λ q u. ap (λ sets. Next [] (with_sets sets (more_now rest u))) (targeted_same rest tag test q u)))
act_same rest p name (Covers check a n) s =
    asked_same rest s a (λ q t. asked t n (then_cover check q))
    (λ q t. asked_same rest t n (then_cover check q) (λ len u. ap (λ held. Next (checked check held) (more_now rest u)) (covered_same rest q len u)))
act_same rest p name (MayFree check e) s = asked_same rest s e (then_may_free check) (λ q t. ap (λ held. Next (checked check held) (more_now rest t)) (may_be_freed_same rest q t))
act_same rest p name (Inside check tag) s = refl
act_same rest p name Seen s = refl
act_same rest p name Havoc s =
    drawn_same rest (havocked (map (λ r. r.range) (ranges_of (innermost s.sets.sets))) s.world.memory s.world.choices) (havocked (map (λ r. r.range) (ranges_of (innermost s.sets.sets))) s.world.memory (s.world.choices ++ rest)) s
    (λ memory t. Next [] (with_memory memory t)) (havoc_takes (map (λ r. r.range) (ranges_of (innermost s.sets.sets))) s.world.memory s.world.choices rest) (λ memory t. refl)
act_same rest p name Frees s = some_killed_same rest (map (λ f. f.object) (frees_of (innermost s.sets.sets))) s
act_same rest p name Statics s =
    drawn_same rest (static_objects (static_sizes p) s.world.choices) (static_objects (static_sizes p) (s.world.choices ++ rest)) s (λ statics t. Next [] (with_memory (with_statics p statics t.world.memory) t)) (statics_take (static_sizes p) s.world.choices rest) (λ statics t. refl)
act_same rest p name OutsideObjects s =
    drawn_same rest (with_outside s.world.memory s.world.choices) (with_outside s.world.memory (s.world.choices ++ rest)) s (λ memory t. Next [] (with_memory memory t)) (outside_takes s.world.memory s.world.choices rest) (λ memory t. refl)
act_same rest p name NewObjects s =
    drawn_same rest (with_new s.world.memory s.world.choices) (with_new s.world.memory (s.world.choices ++ rest)) s (λ memory t. Next [] (with_memory memory t)) (new_objects_take s.world.memory s.world.choices rest) (λ memory t. refl)

-- Runs ------------------------------------------------------------------------------------------------------------

abbrev more_machine : List ℕ → Machine → Machine
more_machine rest m = record m { now = more_now rest m.now }

abbrev SameRun : List ℕ → Run → Run → Type 0
SameRun rest (Going notes m) r = r ≡ Going notes (more_machine rest m)
SameRun rest (Stopped notes end w) r = (end ≡ ChoicesEnded → ⊥) → r ≡ Stopped notes end (more rest w)

noted_same : (rest : List ℕ) (notes : List Note) (r r' : Run) → SameRun rest r r' → SameRun rest (noted notes r) (noted notes r')
noted_same rest notes (Going ns m) r' s = ap (noted notes) s
noted_same rest notes (Stopped ns end w) r' s = λ n. ap (noted notes) (s n)

entered_body_same : (rest : List ℕ) (m : Machine) (s : Now) (result : Option ℕ) (name : List ℕ) (values : List ℤ) (body : Option Body)
    → SameRun rest (entered_body m s result name values body) (entered_body (more_machine rest m) (more_now rest s) result name values body)
entered_body_same rest m s result name values None = λ n. refl
entered_body_same rest m s result name values (Some body) = refl

entered_same : (rest : List ℕ) (p : GotoProgram) (m : Machine) (s : Now) (result : Option ℕ) (name : List ℕ) (values : List ℤ) (room : Bool)
    → SameRun rest (entered p m s result name values room) (entered p (more_machine rest m) (more_now rest s) result name values room)
entered_same rest p m s result name values true =
    noted_same rest (Did (end.Call (function_number 1 p.functions name)) ∷ []) (entered_body m s result name values (body_of p.bodies name)) (entered_body (more_machine rest m) (more_now rest s) result name values (body_of p.bodies name))
    (entered_body_same rest m s result name values (body_of p.bodies name))
entered_same rest p m s result name values false = λ n. refl

left_same : (rest : List ℕ) (s : Now) (value : Option ℤ) (frames : List Frame) → SameRun rest (left_body s value frames) (left_body (more_now rest s) value frames)
left_same rest s value [] = λ n. refl
left_same rest s value (frame ∷ frames) = refl

proceed_same : (rest : List ℕ) (p : GotoProgram) (m : Machine) (t t' : Then) → SameThen rest t t' → SameRun rest (proceed p m t) (proceed p (more_machine rest m) t')
proceed_same rest p m (Next notes s) t' e = ap (proceed p (more_machine rest m)) e
proceed_same rest p m (Jumps place s) t' e = ap (proceed p (more_machine rest m)) e
proceed_same rest p m (Ends notes end w) t' e = λ n. ap (proceed p (more_machine rest m)) (e n)
proceed_same rest p m (Enters result name values s) t' e =
    subst (λ t. SameRun rest (proceed p m (Enters result name values s)) (proceed p (more_machine rest m) t)) (sym e)
    (entered_same rest p m s result name values (nat_lt (length m.frames) depth_limit))
proceed_same rest p m (Leaves value s) t' e =
    subst (λ t. SameRun rest (proceed p m (Leaves value s)) (proceed p (more_machine rest m) t)) (sym e) (left_same rest s value m.frames)

step_at_same : (rest : List ℕ) (p : GotoProgram) (m : Machine) (i : Option Instr) → SameRun rest (step_at p m i) (step_at p (more_machine rest m) i)
step_at_same rest p m None = λ n. refl
step_at_same rest p m (Some i) = proceed_same rest p m (act p m.name i m.now) (act p m.name i (more_now rest m.now)) (act_same rest p m.name i m.now)

go_on_same : (rest : List ℕ) (r r' : Run) (go : Machine → Run) → SameRun rest r r' → ((m : Machine) → SameRun rest (go m) (go (more_machine rest m))) → SameRun rest (go_on r go) (go_on r' go)
go_on_same rest (Going notes m) r' go s h =
    subst (λ r. SameRun rest (noted notes (go m)) (go_on r go)) (sym s) (noted_same rest notes (go m) (go (more_machine rest m)) (h m))
go_on_same rest (Stopped notes end w) r' go s h = λ n. ap (λ r. go_on r go) (s n)

steps_same : (rest : List ℕ) (p : GotoProgram) (n : ℕ) (m : Machine) → SameRun rest (steps p n m) (steps p n (more_machine rest m))
steps_same rest p zero m = refl
steps_same rest p (suc n) m =
    go_on_same rest (step p m) (step p (more_machine rest m)) (steps p n) (step_at_same rest p m (slice_get m.code m.place)) (steps_same rest p n)

start_same : (rest : List ℕ) (p : GotoProgram) (choices : List ℕ) (body : Option Body) → SameRun rest (start_at p choices body) (start_at p (choices ++ rest) body)
start_same rest p choices None = λ n. refl
start_same rest p choices (Some body) = refl

-- What is seen ----------------------------------------------------------------------------------------------------

as_many : (choices left rest : List ℕ) → length choices - length left ≡ length (choices ++ rest) - length (left ++ rest)
as_many choices left rest =
    let a = length-append choices rest in
    let b = length-append left rest in
    omega (arith, a, b)

other_end : (end : End) → dry_at end ≡ 0 → end ≡ ChoicesEnded → ⊥
other_end end z e = let f = ap dry_at e in omega (arith, z, f)

is_at_end : (end : End) → (end ≡ ChoicesEnded) ⊎ (dry_at end ≡ 0)
is_at_end (Returned result) = inr refl
is_at_end Blocked = inr refl
is_at_end (Undefined function) = inr refl
is_at_end (NoBody function) = inr refl
is_at_end ObjectLimit = inr refl
is_at_end DepthLimit = inr refl
is_at_end ChoicesEnded = inl refl
is_at_end Cut = inr refl

seen_same : (choices rest : List ℕ) (r r' : Run) → SameRun rest r r' → ((seen_run choices r).end ≡ ChoicesEnded → ⊥) → seen_run (choices ++ rest) r' ≡ seen_run choices r
seen_same choices rest (Going notes m) r' s n =
    ap (seen_run (choices ++ rest)) s ∙ ap (λ k. record (seen_run choices (Going notes m)) { used = k }) (sym (as_many choices m.now.world.choices rest))
seen_same choices rest (Stopped notes end w) r' s n =
    ap (seen_run (choices ++ rest)) (s n) ∙ ap (λ k. record (seen_run choices (Stopped notes end w)) { used = k }) (sym (as_many choices w.choices rest))

-- a run takes only the choices that it uses: more of them behind change nothing that is seen, but where the choices came
-- to their end
pub run_longer : (p : GotoProgram) (n : ℕ) (used rest : List ℕ) → ((goto_run p n used).end ≡ ChoicesEnded → rest ≡ []) → goto_run p n (used ++ rest) ≡ goto_run p n used
run_longer p n used rest h =
    elim (is_at_end (goto_run p n used).end) [
      | inl e ↦ ap (goto_run p n) (ap (λ rest. used ++ rest) (h e) ∙ append-nil used)
      | inr o ↦ seen_same used rest (go_on (start p used) (steps p n)) (go_on (start p (used ++ rest)) (steps p n))
          (go_on_same rest (start p used) (start p (used ++ rest)) (steps p n) (start_same rest p used (body_of p.bodies (codes ".start"))) (steps_same rest p n))
          (other_end (goto_run p n used).end o)
    ]
