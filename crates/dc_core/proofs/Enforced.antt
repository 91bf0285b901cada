-- The contract run of enforcement alone is the plain run, judged afterwards.
use Rattle.std.proofs.Common.{◌≡◌, ℕ, zero, suc, Bool, true, false, List, [], ◌∷◌, ◌++◌, Option, Some, None, refl, ap, sym, ◌∙◌, append_assoc, append-nil, ℤ}
use Rattle.std.specs.Prelude.{map, flat_map, if◌then◌else◌}
use Rattle.dc_core.specs.Assertion.{postcondition_name}
use Rattle.dc_core.specs.Event.{Event, End, Create, Check, Call, Return as CameBack}
use Rattle.dc_core.specs.Event as end
use Rattle.dc_memory.specs.Objects.{Memory}
use Rattle.dc_memory.specs.Places.{object_of, offset_of, start_of}
use Rattle.dc_memory.specs.Access.{store}
use Rattle.dc_core.specs.World.{World, is_full, next_object, kill_events, left}
use Rattle.dc_core.specs.Program.{Expr, Stmt, Assign, Return, Function, Program}
use Rattle.dc_core.specs.Value.{Scope, Body, Clause, value, place}
use Rattle.dc_core.specs.Contract.{holds, WriteSet, Wrote, claimed, judged}
use Rattle.dc_core.specs.Run.{State, Out, Normal, Returned, Ended, Cut, noted, tick_at, with_some, unless, then_do, with_memory, write, perform, run, with_parameter, with_parameters, finished, leaving, without_locals, call, Entered, Enters, Stops, entered, start_state, PlainNote, Happened, Acted, plain_mode, judged_note, broken_ensures, Note, Did, Failed, act_event, contract_mode, tested, ensured, contract_from, contract_run, event_of, name_of, seen, seen_out, event_noted, ensures_events, seen_plain, seen_call, seen_entered, plain_report}

-- the notes of the contract run that a note of the plain run comes to
abbrev note_of : WriteSet → PlainNote → List Note
note_of set (Happened event) = Did event ∷ []
note_of set (Acted act) = contract_mode.acted set act

abbrev judged_notes : WriteSet → List PlainNote → List Note
judged_notes set notes = flat_map (note_of set) notes

abbrev judged_out : WriteSet → Out PlainNote → Out Note
judged_out set (Normal notes st) = Normal (judged_notes set notes) st
judged_out set (Returned notes result st) = Returned (judged_notes set notes) result st
judged_out set (Ended notes e w) = Ended (judged_notes set notes) e w
judged_out set (Cut notes w) = Cut (judged_notes set notes) w

judged-append : (set : WriteSet) (xs ys : List PlainNote) → judged_notes set (xs ++ ys) ≡ judged_notes set xs ++ judged_notes set ys
judged-append set [] ys = refl
judged-append set (x ∷ xs) ys = ap (λ l. note_of set x ++ l) (judged-append set xs ys) ∙ sym (append_assoc (note_of set x) (judged_notes set xs) (judged_notes set ys))

judged-happened : (set : WriteSet) (events : List Event) → judged_notes set (map Happened events) ≡ map Did events
judged-happened set [] = refl
judged-happened set (event ∷ events) = ap (λ l. Did event ∷ l) (judged-happened set events)

judged-noted : (set : WriteSet) (before : List PlainNote) (o : Out PlainNote) → judged_out set (noted before o) ≡ noted (judged_notes set before) (judged_out set o)
judged-noted set before (Normal notes st) = ap (λ ns. Normal ns st) (judged-append set before notes)
judged-noted set before (Returned notes result st) = ap (λ ns. Returned ns result st) (judged-append set before notes)
judged-noted set before (Ended notes e w) = ap (λ ns. Ended ns e w) (judged-append set before notes)
judged-noted set before (Cut notes w) = ap (λ ns. Cut ns w) (judged-append set before notes)

some_judged : (set : WriteSet) {B : Type 0} (e : End) (w : World) (o : Option B) (f : B → Out Note) (g : B → Out PlainNote)
    → ((v : B) → f v ≡ judged_out set (g v)) → with_some e w o f ≡ judged_out set (with_some e w o g)
some_judged set e w None f g h = refl
some_judged set e w (Some v) f g h = h v

perform_judged : (function : List ℕ) (set : WriteSet) (places : List ℕ) (s : Stmt) (st : State)
    → perform contract_mode function set places s st ≡ judged_out set (perform plain_mode function set places s st)
perform_judged function set places (Assign site target e) st =
    some_judged set (end.Undefined function) st.world (value (Body places) st.world.memory e)
    (λ v. with_some (end.Undefined function) st.world (place (Body places) target) (λ pointer. write contract_mode function set site pointer v st))
    (λ v. with_some (end.Undefined function) st.world (place (Body places) target) (λ pointer. write plain_mode function set site pointer v st))
    (λ v. some_judged set (end.Undefined function) st.world (place (Body places) target)
    (λ pointer. write contract_mode function set site pointer v st) (λ pointer. write plain_mode function set site pointer v st)
    (λ pointer. some_judged set (end.Undefined function) st.world (store _ pointer v st.world.memory)
    (λ memory. Normal (contract_mode.acted set (Wrote function site (object_of pointer) (offset_of pointer) 4)) (with_memory memory st))
    (λ memory. Normal (Acted (Wrote function site (object_of pointer) (offset_of pointer) 4) ∷ []) (with_memory memory st))
    (λ memory. ap (λ ns. Normal ns (with_memory memory st)) (sym (append-nil (contract_mode.acted set (Wrote function site (object_of pointer) (offset_of pointer) 4)))))))
perform_judged function set places (Return e) st =
    some_judged set (end.Undefined function) st.world (value (Body places) st.world.memory e) (λ v. Returned [] (Some v) st) (λ v. Returned [] (Some v) st) (λ v. refl)

then_judged : (set : WriteSet) (a : Out Note) (b : Out PlainNote) (f : State → Out Note) (g : State → Out PlainNote)
    → a ≡ judged_out set b → ((st : State) → f st ≡ judged_out set (g st)) → then_do a f ≡ judged_out set (then_do b g)
then_judged set a b f g e h = ap (λ o. then_do o f) e ∙ by b
  where
    by : (b : Out PlainNote) → then_do (judged_out set b) f ≡ judged_out set (then_do b g)
    by (Normal notes st) = ap (noted (judged_notes set notes)) (h st) ∙ sym (judged-noted set notes (g st))
    by (Returned notes result st) = refl
    by (Ended notes x w) = refl
    by (Cut notes w) = refl

run_judged : (function : List ℕ) (set : WriteSet) (places : List ℕ) (body : List Stmt) (st : State)
    → run contract_mode function set places body st ≡ judged_out set (run plain_mode function set places body st)
run_judged function set places [] st = refl
run_judged function set places (s ∷ body) st = by st.left (λ t. run_judged function set places body t)
  where
    by : (n : ℕ) → ((t : State) → run contract_mode function set places body t ≡ judged_out set (run plain_mode function set places body t))
        → tick_at n st (λ t. then_do (perform contract_mode function set places s t) (run contract_mode function set places body))
        ≡ judged_out set (tick_at n st (λ t. then_do (perform plain_mode function set places s t) (run plain_mode function set places body)))
    by zero h = refl
    by (suc k) h =
        then_judged set (perform contract_mode function set places s (record st { left = k })) (perform plain_mode function set places s (record st { left = k }))
        (run contract_mode function set places body) (run plain_mode function set places body) (perform_judged function set places s (record st { left = k })) h

parameters_judged : (set : WriteSet) (arguments : List ℤ) (places : List ℕ) (st : State) (f : List ℕ → State → Out Note) (g : List ℕ → State → Out PlainNote)
    → ((places : List ℕ) (st : State) → f places st ≡ judged_out set (g places st))
    → with_parameters contract_mode arguments places st f ≡ judged_out set (with_parameters plain_mode arguments places st g)
parameters_judged set [] places st f g h = h places st
parameters_judged set (v ∷ arguments) places st f g h =
    by (is_full st.world) (parameters_judged set arguments (places ++ start_of (next_object st.world) ∷ []) (with_parameter v st) f g h)
  where
    rest : Out Note
    rest = with_parameters contract_mode arguments (places ++ start_of (next_object st.world) ∷ []) (with_parameter v st) f

    plain : Out PlainNote
    plain = with_parameters plain_mode arguments (places ++ start_of (next_object st.world) ∷ []) (with_parameter v st) g

    by : (b : Bool) → rest ≡ judged_out set plain
        → unless b end.ObjectLimit st.world (noted (Did (Create (next_object st.world)) ∷ []) rest)
        ≡ judged_out set (unless b end.ObjectLimit st.world (noted (Happened (Create (next_object st.world)) ∷ []) plain))
    by true e = refl
    by false e = ap (noted (Did (Create (next_object st.world)) ∷ [])) e ∙ sym (judged-noted set (Happened (Create (next_object st.world)) ∷ []) plain)

leaving_judged : (set : WriteSet) (f : Function) (outer : List ℕ) (o : Out PlainNote)
    → leaving contract_mode outer (finished f (judged_out set o)) ≡ judged_out set (leaving plain_mode outer (finished f o))
leaving_judged set f outer (Normal notes st) = by f.gives_int
  where
    by : (b : Bool) → leaving contract_mode outer (if b then Ended (judged_notes set notes) (end.Undefined f.name) st.world else Returned (judged_notes set notes) None st)
        ≡ judged_out set (leaving plain_mode outer (if b then Ended notes (end.Undefined f.name) st.world else Returned notes None st))
    by true = refl
    by false = left_judged set outer notes None st
      where
        left_judged : (set : WriteSet) (outer : List ℕ) (notes : List PlainNote) (result : Option ℤ) (st : State)
            → leaving contract_mode outer (Returned (judged_notes set notes) result st) ≡ judged_out set (leaving plain_mode outer (Returned notes result st))
        left_judged set outer notes result st =
            let events = kill_events st.world ++ CameBack ∷ [] in
            ap (λ ns. Returned ns result (record st { world = left outer st.world }))
            (ap (λ l. judged_notes set notes ++ l) (sym (judged-happened set events)) ∙ sym (judged-append set notes (map Happened events)))
leaving_judged set f outer (Returned notes result st) =
    let events = kill_events st.world ++ CameBack ∷ [] in
    ap (λ ns. Returned ns result (record st { world = left outer st.world }))
    (ap (λ l. judged_notes set notes ++ l) (sym (judged-happened set events)) ∙ sym (judged-append set notes (map Happened events)))
leaving_judged set f outer (Ended notes e w) = refl
leaving_judged set f outer (Cut notes w) = refl

call_judged : (f : Function) (set : WriteSet) (arguments : List ℤ) (st : State)
    → call contract_mode f set arguments st ≡ judged_out set (call plain_mode f set arguments st)
call_judged f set arguments st =
    let plain = with_parameters plain_mode arguments [] (without_locals st) (λ places t. run plain_mode f.name set places f.body t) in
    ap (λ o. noted (Did (Call 1) ∷ []) (leaving contract_mode st.world.locals (finished f o)))
    (parameters_judged set arguments [] (without_locals st) (λ places t. run contract_mode f.name set places f.body t) (λ places t. run plain_mode f.name set places f.body t)
    (λ places t. run_judged f.name set places f.body t))
    ∙ ap (noted (Did (Call 1) ∷ [])) (leaving_judged set f st.world.locals plain)
    ∙ sym (judged-noted set (Happened (Call 1) ∷ []) (leaving plain_mode st.world.locals (finished f plain)))

-- Names and events ---------------------------------------------------------------------------------------------------

names-failed : (names : List (List ℕ)) → flat_map name_of (map Failed names) ≡ names
names-failed [] = refl
names-failed (name ∷ names) = ap (λ l. name ∷ l) (names-failed names)

events-failed : (names : List (List ℕ)) → flat_map event_of (map Failed names) ≡ []
events-failed [] = refl
events-failed (name ∷ names) = events-failed names

notes-append : {A : Type 0} (f : Note → List A) (xs ys : List Note) → flat_map f (xs ++ ys) ≡ flat_map f xs ++ flat_map f ys
notes-append f [] ys = refl
notes-append f (x ∷ xs) ys = ap (λ l. f x ++ l) (notes-append f xs ys) ∙ sym (append_assoc (f x) (flat_map f xs) (flat_map f ys))

names-judged : (set : WriteSet) (notes : List PlainNote) → flat_map name_of (judged_notes set notes) ≡ flat_map (judged_note set) notes
names-judged set [] = refl
names-judged set (Happened event ∷ notes) = names-judged set notes
names-judged set (Acted act ∷ notes) =
    notes-append name_of (map Failed (judged set act)) (judged_notes set notes)
    ∙ ap (λ l. l ++ flat_map name_of (judged_notes set notes)) (names-failed (judged set act))
    ∙ ap (λ l. judged set act ++ l) (names-judged set notes)

events-judged : (set : WriteSet) (notes : List PlainNote) → flat_map event_of (judged_notes set notes) ≡ map event_noted notes
events-judged set [] = refl
events-judged set (Happened event ∷ notes) = ap (λ l. event ∷ l) (events-judged set notes)
events-judged set (Acted act ∷ notes) =
    ap (λ l. act_event act ∷ l)
    (notes-append event_of (map Failed (judged set act)) (judged_notes set notes)
    ∙ ap (λ l. l ++ flat_map event_of (judged_notes set notes)) (events-failed (judged set act))
    ∙ events-judged set notes)

names-did : (events : List Event) → flat_map name_of (map Did events) ≡ []
names-did [] = refl
names-did (event ∷ events) = names-did events

events-did : (events : List Event) → flat_map event_of (map Did events) ≡ events
events-did [] = refl
events-did (event ∷ events) = ap (λ l. event ∷ l) (events-did events)

names-tested : (function : List ℕ) (k : ℕ) (scope : Scope) (memory : Memory) (es : List Expr) → flat_map name_of (tested function k scope memory es) ≡ broken_ensures function k scope memory es
names-tested function k scope memory [] = refl
names-tested function k scope memory (e ∷ es) =
    let names = claimed (postcondition_name function k) (holds (value scope memory e)) in
    notes-append name_of (map Failed names) (tested function (suc k) scope memory es)
    ∙ ap (λ l. l ++ flat_map name_of (tested function (suc k) scope memory es)) (names-failed names)
    ∙ ap (λ l. names ++ l) (names-tested function (suc k) scope memory es)

events-tested : (function : List ℕ) (k : ℕ) (scope : Scope) (memory : Memory) (es : List Expr) → flat_map event_of (tested function k scope memory es) ≡ ensures_events scope memory es
events-tested function k scope memory [] = refl
events-tested function k scope memory (e ∷ es) =
    let names = claimed (postcondition_name function k) (holds (value scope memory e)) in
    ap (λ l. Check (holds (value scope memory e)) ∷ l)
    (notes-append event_of (map Failed names) (tested function (suc k) scope memory es)
    ∙ ap (λ l. l ++ flat_map event_of (tested function (suc k) scope memory es)) (events-failed names)
    ∙ events-tested function (suc k) scope memory es)

-- what is seen of notes behind the entry's events
same_seen : (choices : List ℕ) (events : List Event) (notes : List Note) (names : List (List ℕ)) (more : List Event) (e : End) (w : World)
    → flat_map name_of notes ≡ names → flat_map event_of notes ≡ more → seen choices (map Did events ++ notes) e w ≡ seen_plain choices names (events ++ more) e w
same_seen choices events notes names more e w en ee =
    ap (λ l. seen_plain choices l (flat_map event_of (map Did events ++ notes)) e w)
    (notes-append name_of (map Did events) notes ∙ ap (λ l. l ++ flat_map name_of notes) (names-did events) ∙ en)
    ∙ ap (λ l. seen_plain choices names l e w)
    (notes-append event_of (map Did events) notes ∙ ap (λ l. l ++ flat_map event_of notes) (events-did events) ∙ ap (λ l. events ++ l) ee)

call_seen : (choices : List ℕ) (f : Function) (set : WriteSet) (arguments : List ℤ) (events : List Event) (o : Out PlainNote)
    → seen_out choices (noted (map Did events) (ensured f arguments (judged_out set o))) ≡ seen_call choices f set arguments events o
call_seen choices f set arguments events (Normal notes st) =
    same_seen choices events (judged_notes set notes) _ _ (end.Returned None) st.world (names-judged set notes) (events-judged set notes)
call_seen choices f set arguments events (Ended notes e w) =
    same_seen choices events (judged_notes set notes) _ _ e w (names-judged set notes) (events-judged set notes)
call_seen choices f set arguments events (Cut notes w) =
    same_seen choices events (judged_notes set notes) _ _ end.Cut w (names-judged set notes) (events-judged set notes)
call_seen choices f set arguments events (Returned notes result st) =
    let tests = tested f.name 1 (Clause arguments result) st.world.memory f.contract.ensures_ in
    same_seen choices events (judged_notes set notes ++ tests) _ _ (end.Returned result) st.world
    (notes-append name_of (judged_notes set notes) tests
    ∙ ap (λ l. l ++ flat_map name_of tests) (names-judged set notes)
    ∙ ap (λ l. flat_map (judged_note set) notes ++ l) (names-tested f.name 1 (Clause arguments result) st.world.memory f.contract.ensures_))
    (notes-append event_of (judged_notes set notes) tests
    ∙ ap (λ l. l ++ flat_map event_of tests) (events-judged set notes)
    ∙ ap (λ l. map event_noted notes ++ l) (events-tested f.name 1 (Clause arguments result) st.world.memory f.contract.ensures_))

entered_seen : (choices : List ℕ) (p : Program) (e : Entered) → seen_out choices (contract_from p e) ≡ seen_entered choices p e
entered_seen choices p (Enters events arguments set st) =
    ap (λ o. seen_out choices (noted (map Did events) (ensured p.function arguments o))) (call_judged p.function set arguments st)
    ∙ call_seen choices p.function set arguments events (call plain_mode p.function set arguments st)
entered_seen choices p (Stops events e w) =
    ap (λ l. seen choices l e w) (sym (append-nil (map Did events)))
    ∙ same_seen choices events [] [] [] e w refl refl
    ∙ ap (λ l. seen_plain choices [] l e w) (append-nil events)

-- enforcement alone breaks exactly what the plain run breaks
pub enforcement_is_plain : (p : Program) (n : ℕ) (choices : List ℕ) → contract_run p n choices ≡ plain_report p n choices
enforcement_is_plain p zero choices = refl
enforcement_is_plain p (suc n) choices = entered_seen choices p (entered p (start_state n choices))
