-- The runs of a program: one recursion over statements serves the plain run, whose acts are noted, and the contract
-- run, whose acts are judged.
use Rattle.std.specs.Prelude.{ℕ, zero, suc, ◌-◌, ℤ, Bool, true, false, List, [], ◌∷◌, ◌++◌, length, map, flat_map, Option, None, Some, if◌then◌else◌}
use Rattle.dc_core.specs.Assertion.{postcondition_name}
use Rattle.dc_core.specs.Event.{Event, End, Create, Check, Call, Return as CameBack, Write}
use Rattle.dc_core.specs.Event as end
use Rattle.dc_memory.specs.declared.kind.MemKind.TheVariants.{S32}
use Rattle.dc_memory.specs.Objects.{Memory}
use Rattle.dc_memory.specs.Places.{object_of, offset_of, start_of}
use Rattle.dc_memory.specs.Encoding.{encoded}
use Rattle.dc_memory.specs.Access.{store}
use Rattle.dc_core.specs.Choices.{Drawn, Drew, Dry}
use Rattle.dc_core.specs.World.{World, start_world, is_full, next_object, with_local, left, kill_events}
use Rattle.dc_core.specs.Entry.{entry_memory, draw_arguments}
use Rattle.dc_core.specs.Program.{Expr, Stmt, Assign, Return, Function, Program}
use Rattle.dc_core.specs.Value.{Scope, Body, Clause, value, place}
use Rattle.dc_core.specs.Contract.{holds, all_hold, WriteSet, set_of, Act, Wrote, claimed, judged}
use Rattle.dc_core.specs.Outcome.{Outcome}

-- Outcomes of a part of a run -----------------------------------------------------------------------------------

pub record State : Type 0 where
  pub world : World
  -- the steps that are left
  pub left : ℕ

-- how a part of a run ends, with what was noted on the way
pub data Out (A : Type 0) : Type 0 where
  Normal : List A → State → Out A
  Returned : List A → Option ℤ → State → Out A
  Ended : List A → End → World → Out A
  Cut : List A → World → Out A

-- what was noted before
abbrev pub noted : {A : Type 0} → List A → Out A → Out A
noted before (Normal notes st) = Normal (before ++ notes) st
noted before (Returned notes result st) = Returned (before ++ notes) result st
noted before (Ended notes end w) = Ended (before ++ notes) end w
noted before (Cut notes w) = Cut (before ++ notes) w

abbrev pub notes_of : {A : Type 0} → Out A → List A
notes_of (Normal notes st) = notes
notes_of (Returned notes result st) = notes
notes_of (Ended notes end w) = notes
notes_of (Cut notes w) = notes

-- one step, where one is left
abbrev pub tick_at : {A : Type 0} → ℕ → State → (State → Out A) → Out A
tick_at zero st go = Cut [] st.world
tick_at (suc n) st go = go (record st { left = n })

abbrev pub tick : {A : Type 0} → State → (State → Out A) → Out A
tick st go = tick_at st.left st go

-- a value, or the end
abbrev pub with_some : {A B : Type 0} → End → World → Option B → (B → Out A) → Out A
with_some end w None go = Ended [] end w
with_some end w (Some v) go = go v

-- the end, where the test is true
abbrev pub unless : {A : Type 0} → Bool → End → World → Out A → Out A
unless true end w out = Ended [] end w
unless false end w out = out

abbrev pub then_do : {A : Type 0} → Out A → (State → Out A) → Out A
then_do (Normal notes st) go = noted notes (go st)
then_do (Returned notes result st) go = Returned notes result st
then_do (Ended notes end w) go = Ended notes end w
then_do (Cut notes w) go = Cut notes w

-- Statements ----------------------------------------------------------------------------------------------------

-- what is noted of an event, and of an act where a set is in force
pub record Mode (A : Type 0) : Type 0 where
  pub happened : Event → A
  pub acted : WriteSet → Act → List A

abbrev pub with_memory : Memory → State → State
with_memory memory st = record st { world = record st.world { memory = memory } }

-- an int is written at a place
abbrev pub write : {A : Type 0} → Mode A → List ℕ → WriteSet → ℕ → ℕ → ℤ → State → Out A
write M function set site pointer v st =
    with_some (end.Undefined function) st.world (store S32 pointer v st.world.memory)
    (λ memory. Normal (M.acted set (Wrote function site (object_of pointer) (offset_of pointer) 4)) (with_memory memory st))

-- one statement of a function whose parameters are objects at these places
abbrev pub perform : {A : Type 0} → Mode A → List ℕ → WriteSet → List ℕ → Stmt → State → Out A
perform M function set places (Assign site target e) st =
    with_some (end.Undefined function) st.world (value (Body places) st.world.memory e)
    (λ v. with_some (end.Undefined function) st.world (place (Body places) target)
    (λ pointer. write M function set site pointer v st))
perform M function set places (Return e) st =
    with_some (end.Undefined function) st.world (value (Body places) st.world.memory e) (λ v. Returned [] (Some v) st)

-- statements in their order, each of them a step
abbrev pub run : {A : Type 0} → Mode A → List ℕ → WriteSet → List ℕ → List Stmt → State → Out A
run M function set places [] st = Normal [] st
run M function set places (s ∷ body) st =
    tick st (λ t. then_do (perform M function set places s t) (run M function set places body))

-- Calls ---------------------------------------------------------------------------------------------------------

abbrev pub with_parameter : ℤ → State → State
with_parameter v st = record st { world = with_local (encoded S32 v) st.world }

-- each argument becomes a stack object, behind those at these places
abbrev pub with_parameters : {A : Type 0} → Mode A → List ℤ → List ℕ → State → (List ℕ → State → Out A) → Out A
with_parameters M [] places st go = go places st
with_parameters M (v ∷ arguments) places st go =
    unless (is_full st.world) end.ObjectLimit st.world
    (noted (M.happened (Create (next_object st.world)) ∷ [])
    (with_parameters M arguments (places ++ start_of (next_object st.world) ∷ []) (with_parameter v st) go))

-- the end of a body: an int function that falls off its end is undefined
abbrev pub finished : {A : Type 0} → Function → Out A → Out A
finished f (Normal notes st) = if f.gives_int then Ended notes (end.Undefined f.name) st.world else Returned notes None st
finished f (Returned notes result st) = Returned notes result st
finished f (Ended notes end w) = Ended notes end w
finished f (Cut notes w) = Cut notes w

-- a function is left: its objects die, and the caller's are in force again
abbrev pub leaving : {A : Type 0} → Mode A → List ℕ → Out A → Out A
leaving M outer (Normal notes st) = Normal notes st
leaving M outer (Returned notes result st) =
    Returned (notes ++ map M.happened (kill_events st.world ++ CameBack ∷ [])) result (record st { world = left outer st.world })
leaving M outer (Ended notes end w) = Ended notes end w
leaving M outer (Cut notes w) = Cut notes w

abbrev pub without_locals : State → State
without_locals st = record st { world = record st.world { locals = [] } }

-- a call of the program's function with this set
abbrev pub call : {A : Type 0} → Mode A → Function → WriteSet → List ℤ → State → Out A
call M f set arguments st =
    noted (M.happened (Call 1) ∷ [])
    (leaving M st.world.locals
    (finished f (with_parameters M arguments [] (without_locals st) (λ places t. run M f.name set places f.body t))))

-- The entry -----------------------------------------------------------------------------------------------------

-- the function is entered with these arguments and this set; or the run has ended before
pub data Entered : Type 0 where
  Enters : List Event → (arguments : List ℤ) → WriteSet → State → Entered
  Stops : List Event → End → World → Entered

abbrev pub required : Function → List ℤ → State → List Event → Bool → Entered
required f arguments st events true =
    Enters events arguments (set_of f.contract.assigns (Clause arguments None) st.world.memory) st
required f arguments st events false = Stops events end.Blocked st.world

abbrev pub with_choices : List ℕ → State → State
with_choices choices st = record st { world = record st.world { choices = choices } }

abbrev pub with_arguments : Function → State → List Event → Drawn (List ℤ) → Entered
with_arguments f st before (Drew arguments rest events) =
    required f arguments (with_choices rest st) (before ++ events)
    (all_hold (Clause arguments None) st.world.memory f.contract.requires_)
with_arguments f st before (Dry events) = Stops (before ++ events) end.ChoicesEnded (with_choices [] st).world

abbrev pub with_entry : Function → State → Drawn Memory → Entered
with_entry f st (Drew memory rest events) =
    with_arguments f (with_choices rest (with_memory memory st)) events (draw_arguments f.params rest)
with_entry f st (Dry events) = Stops events end.ChoicesEnded (with_choices [] st).world

-- the memory, the arguments, the requires, the targets
abbrev pub entered : Program → State → Entered
entered p st = with_entry p.function st (entry_memory p st.world.choices)

abbrev pub start_state : ℕ → List ℕ → State
start_state n choices = record { world = start_world choices; left = n }

-- The plain run and its broken clauses ----------------------------------------------------------------------------

pub data PlainNote : Type 0 where
  Happened : Event → PlainNote
  Acted : Act → PlainNote

abbrev pub plain_mode : Mode PlainNote
plain_mode = record { happened = Happened; acted = λ set act. Acted act ∷ [] }

abbrev pub plain_from : Program → Entered → Out PlainNote
plain_from p (Enters events arguments set st) =
    noted (map Happened events) (call plain_mode p.function set arguments st)
plain_from p (Stops events end w) = Ended (map Happened events) end w

-- the run of at most n steps; the entry with its call is one
abbrev pub plain_run : Program → ℕ → List ℕ → Out PlainNote
plain_run p n choices = tick (start_state n choices) (λ st. plain_from p (entered p st))

abbrev pub judged_note : WriteSet → PlainNote → List (List ℕ)
judged_note set (Happened event) = []
judged_note set (Acted act) = judged set act

-- the ensures that don't hold, from number k on
abbrev pub broken_ensures : List ℕ → ℕ → Scope → Memory → List Expr → List (List ℕ)
broken_ensures function k scope memory [] = []
broken_ensures function k scope memory (e ∷ ensures_) =
    claimed (postcondition_name function k) (holds (value scope memory e)) ++ broken_ensures function (suc k) scope memory ensures_

-- acts are judged afterwards, all against the one set, and then the ensures
abbrev pub broken_by : Function → WriteSet → List ℤ → Out PlainNote → List (List ℕ)
broken_by f set arguments (Normal notes st) = flat_map (judged_note set) notes
broken_by f set arguments (Returned notes result st) =
    flat_map (judged_note set) notes ++ broken_ensures f.name 1 (Clause arguments result) st.world.memory f.contract.ensures_
broken_by f set arguments (Ended notes end w) = flat_map (judged_note set) notes
broken_by f set arguments (Cut notes w) = flat_map (judged_note set) notes

abbrev pub broken_from : Program → Entered → List (List ℕ)
broken_from p (Enters events arguments set st) =
    broken_by p.function set arguments (call plain_mode p.function set arguments st)
broken_from p (Stops events end w) = []

abbrev pub broken_at : Program → ℕ → State → List (List ℕ)
broken_at p zero st = []
broken_at p (suc n) st = broken_from p (entered p (record st { left = n }))

-- the clauses that the plain run of at most n steps breaks, in order
abbrev pub broken : Program → ℕ → List ℕ → List (List ℕ)
broken p n choices = broken_at p n (start_state n choices)

-- The contract run ------------------------------------------------------------------------------------------------

pub data Note : Type 0 where
  Did : Event → Note
  Failed : List ℕ → Note

abbrev pub act_event : Act → Event
act_event (Wrote function site object from len) = Write object from len

-- an act is judged against the set in which it stands
abbrev pub contract_mode : Mode Note
contract_mode = record { happened = Did; acted = λ set act. Did (act_event act) ∷ map Failed (judged set act) }

-- a test that a name belongs to
abbrev pub checked : List ℕ → Bool → List Note
checked name held = Did (Check held) ∷ map Failed (claimed name held)

-- the ensures are tested in order, from number k on
abbrev pub tested : List ℕ → ℕ → Scope → Memory → List Expr → List Note
tested function k scope memory [] = []
tested function k scope memory (e ∷ ensures_) =
    checked (postcondition_name function k) (holds (value scope memory e)) ++ tested function (suc k) scope memory ensures_

abbrev pub ensured : Function → List ℤ → Out Note → Out Note
ensured f arguments (Normal notes st) = Normal notes st
ensured f arguments (Returned notes result st) =
    Returned (notes ++ tested f.name 1 (Clause arguments result) st.world.memory f.contract.ensures_) result st
ensured f arguments (Ended notes end w) = Ended notes end w
ensured f arguments (Cut notes w) = Cut notes w

abbrev pub contract_from : Program → Entered → Out Note
contract_from p (Enters events arguments set st) =
    noted (map Did events) (ensured p.function arguments (call contract_mode p.function set arguments st))
contract_from p (Stops events end w) = Ended (map Did events) end w

abbrev pub event_of : Note → List Event
event_of (Did event) = event ∷ []
event_of (Failed name) = []

abbrev pub name_of : Note → List (List ℕ)
name_of (Did event) = []
name_of (Failed name) = name ∷ []

-- what is seen of a run that began with these choices
abbrev pub seen : List ℕ → List Note → End → World → Outcome
seen choices notes end w =
    record {
      names = flat_map name_of notes;
      events = flat_map event_of notes;
      end = end;
      used = length choices - length w.choices;
      memory = w.memory;
    }

-- a whole run isn't left in any other way than by a return, an end, or want of steps
abbrev pub seen_out : List ℕ → Out Note → Outcome
seen_out choices (Normal notes st) = seen choices notes (end.Returned None) st.world
seen_out choices (Returned notes result st) = seen choices notes (end.Returned result) st.world
seen_out choices (Ended notes end w) = seen choices notes end w
seen_out choices (Cut notes w) = seen choices notes end.Cut w

-- the contract run of at most n steps; the entry with its call is one
abbrev pub contract_run : Program → ℕ → List ℕ → Outcome
contract_run p n choices =
    seen_out choices (tick (start_state n choices) (λ st. contract_from p (entered p st)))

-- The report of the plain run -----------------------------------------------------------------------------------

abbrev pub event_noted : PlainNote → Event
event_noted (Happened event) = event
event_noted (Acted act) = act_event act

-- each ensures is a test, from number k on
abbrev pub ensures_events : Scope → Memory → List Expr → List Event
ensures_events scope memory [] = []
ensures_events scope memory (e ∷ ensures_) = Check (holds (value scope memory e)) ∷ ensures_events scope memory ensures_

-- what is seen of a plain run: the clauses that it breaks, its events and then the tests of the ensures
abbrev pub seen_plain : List ℕ → List (List ℕ) → List Event → End → World → Outcome
seen_plain choices names events end w =
    record { names = names; events = events; end = end; used = length choices - length w.choices; memory = w.memory }

abbrev pub seen_call : List ℕ → Function → WriteSet → List ℤ → List Event → Out PlainNote → Outcome
seen_call choices f set arguments before (Normal notes st) =
    seen_plain choices (broken_by f set arguments (Normal notes st)) (before ++ map event_noted notes) (end.Returned None) st.world
seen_call choices f set arguments before (Returned notes result st) =
    seen_plain choices (broken_by f set arguments (Returned notes result st))
    (before ++ (map event_noted notes ++ ensures_events (Clause arguments result) st.world.memory f.contract.ensures_))
    (end.Returned result) st.world
seen_call choices f set arguments before (Ended notes end w) =
    seen_plain choices (broken_by f set arguments (Ended notes end w)) (before ++ map event_noted notes) end w
seen_call choices f set arguments before (Cut notes w) =
    seen_plain choices (broken_by f set arguments (Cut notes w)) (before ++ map event_noted notes) end.Cut w

abbrev pub seen_entered : List ℕ → Program → Entered → Outcome
seen_entered choices p (Enters events arguments set st) =
    seen_call choices p.function set arguments events (call plain_mode p.function set arguments st)
seen_entered choices p (Stops events end w) = seen_plain choices [] events end w

abbrev pub plain_report_at : Program → ℕ → List ℕ → Outcome
plain_report_at p zero choices = seen_plain choices [] [] end.Cut (start_world choices)
plain_report_at p (suc n) choices = seen_entered choices p (entered p (start_state n choices))

-- the report of the plain run of at most n steps
abbrev pub plain_report : Program → ℕ → List ℕ → Outcome
plain_report p n choices = plain_report_at p n choices
