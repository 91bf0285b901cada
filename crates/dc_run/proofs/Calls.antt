-- Calls in parts.
use Rattle.std.proofs.Common.{◌≡◌, ℕ, suc, ◌<◌, ◌≤◌, Bool, true, false, ℤ, List, [], ◌∷◌, ◌++◌, length, map, refl, ap, sym, ◌∙◌, arith, append-nil, append_assoc, ◌+◌, reverse, get_or, drop, drop-cons, add-one}
use Rattle.std.specs.Prelude.{Result, Ok, Err, IfOk, IsErr}
use Rattle.std.proofs.lemmas.Bool.Decides.{nat_tests}
use Rattle.dc_core.specs.Event as plain
use Rattle.dc_core.specs.Event.{Event}
use Rattle.dc_core.specs.Assertion.{postcondition_name}
use Rattle.dc_core.specs.Contract.{holds}
use Rattle.dc_memory.specs.declared.kind.MemKind.TheVariants.{S32}
use Rattle.dc_memory.specs.declared.object.ObjKind.TheVariants.{Stack}
use Rattle.dc_memory.specs.Objects.{Memory, changed, holding}
use Rattle.dc_memory.specs.Encoding.{encoded}
use Rattle.dc_core.specs.Objects.{died}
use Rattle.dc_memory.specs.Places.{start_of}
use Rattle.dc_core.specs.View.{clause_view}
use Rattle.dc_program.specs.declared.contract.Clause as code
use Rattle.dc_core.specs.Program.{Function}
use Rattle.dc_core.specs.Run.{State, Out, Normal, Returned, Ended, Cut, Note, Did, noted, notes_of, contract_mode, with_parameter, with_parameters, finished, leaving, ensured, checked, tested}
use Rattle.dc_core.specs.Value.{Scope, Clause, value}
use Rattle.dc_core.specs.World.{World, next_object, is_full, left, kill_events}
use Rattle.dc_world.specs.Told.{Hearing, happens, told}
use Rattle.dc_world.specs.declared.report.End.TheVariants as end
use Rattle.dc_world.specs.declared.report.Which.TheVariants as which
use Rattle.dc_run.specs.declared.state.Flow.{Flow}
use Rattle.dc_run.specs.declared.state.Flow.TheVariants as flow
use Rattle.dc_world.specs.Reported.{dry_at}
use Rattle.dc_run.specs.Part.{out_of, end_of, is_return, HasCome, WasCutOff, IsPart, IsResumed, HasBegun, IsBegun, HasLeft, AllTested, SomeTested, IsTold}
use Rattle.std.proofs.lemmas.List.{reverse-append}
use Rattle.dc_run.proofs.Places.{length-kill_all}
use Rattle.dc_run.proofs.Parts.{told-two, cut_behind}

-- Parameters ------------------------------------------------------------------------------------------------------

not_full : (w : World) → length w.memory < 65535 → is_full w ≡ false
not_full w h = grind (arith, nat_tests)

full : (w : World) → 65535 ≤ length w.memory → is_full w ≡ true
full w h = grind (arith, nat_tests)

-- a parameter's object is the newest
pub parameter_pushed : (m new : Memory) (locals locals' choices : List ℕ) (steps number : ℕ) (z : ℤ) → new ≡ m ++ holding Stack (encoded S32 z) ∷ [] → locals' ≡ locals ++ number ∷ [] → number ≡ length m + 1
    → ◌≡◌ {A = State} (record { world = record { memory = new; choices = choices; locals = reverse locals' }; left = steps }) (with_parameter z (record { world = record { memory = m; choices = choices; locals = reverse locals }; left = steps }))
parameter_pushed m new locals locals' choices steps number z e f count =
    let next : number ≡ suc (length m) = omega (arith, count) in
    rw (e, f, reverse-append locals (number ∷ []), next) refl

pub parameters_more : (all rest : List ℤ) (v : ℤ) (places : List ℕ) (st : State) (go : List ℕ → State → Out Note) → all ≡ v ∷ rest → length st.world.memory < 65535
    → with_parameters contract_mode all places st go
    ≡ noted (Did (plain.Create (next_object st.world)) ∷ []) (with_parameters contract_mode rest (places ++ start_of (next_object st.world) ∷ []) (with_parameter v st) go)
parameters_more all rest v places st go e h = rw (e, not_full st.world h) refl

pub parameters_full : (all rest : List ℤ) (v : ℤ) (places : List ℕ) (st : State) (go : List ℕ → State → Out Note) → all ≡ v ∷ rest → 65535 ≤ length st.world.memory
    → with_parameters contract_mode all places st go ≡ Ended [] plain.ObjectLimit st.world
parameters_full all rest v places st go e h = rw (e, full st.world h) refl

pub parameters_none : (all : List ℤ) (places : List ℕ) (st : State) (go : List ℕ → State → Out Note) → all ≡ [] → with_parameters contract_mode all places st go ≡ go places st
parameters_none all places st go e = rw e refl

pub parameters_step : (all rest : List ℤ) (v : ℤ) (places places' : List ℕ) (st st' : State) (go : List ℕ → State → Out Note) → all ≡ v ∷ rest → length st.world.memory < 65535
    → st' ≡ with_parameter v st → places' ≡ places ++ start_of (next_object st.world) ∷ []
    → with_parameters contract_mode all places st go ≡ noted (Did (plain.Create (next_object st.world)) ∷ []) (with_parameters contract_mode rest places' st' go)
parameters_step all rest v places places' st st' go e h s p = rw (s, p) (parameters_more all rest v places st go e h)

pub begun_full : (w r : List ℕ → Out Note) (state : List ℕ → State) (h k : Hearing) → IsResumed w r h k → ((choices : List ℕ) → r choices ≡ Ended [] plain.ObjectLimit (state choices).world)
    → (notes : List Note) × ((choices : List ℕ) → w choices ≡ Ended notes plain.ObjectLimit (state choices).world) × (k ≡ told notes h)
begun_full w r state h k p e =
    (p.notes, λ choices. p.goes choices ∙ ap (noted p.notes) (e choices) ∙ ap (λ ns. Ended ns plain.ObjectLimit (state choices).world) (append-nil p.notes), p.heard)

pub begun_on : (w r : List ℕ → Out Note) (state : List ℕ → State) (b : Bool) (h h' : Hearing) → b ≡ true → HasBegun w r state b h h' → IsResumed w r h h'
begun_on w r state true h h' e p = p
begun_on w r state false h h' e p = cc

pub begun_limit : (w r : List ℕ → Out Note) (state : List ℕ → State) (b : Bool) (h h' : Hearing) → b ≡ false → HasBegun w r state b h h'
    → HasCome w state (flow.Ended (end.Limit which.Objects)) h h'
begun_limit w r state true h h' e p = cc
begun_limit w r state false h h' e p = record { notes = p.0; comes = p.1; not_dry = refl; heard = p.2 }

pub begun_refused : {E : Type 0} (w rest : List ℕ → Out Note) (state : List ℕ → State) (r : Result Bool E) (h h' : Hearing) → IsErr r → WasCutOff w h h' → IsBegun w rest state r h h'
begun_refused w rest state (Ok b) h h' e c = cc
begun_refused w rest state (Err x) h h' e c = c

pub drop_next : {X : Type 0} (xs : List X) (i : ℕ) (d x : X) → x ≡ get_or xs i d → i < length xs → drop i xs ≡ x ∷ drop (i + 1) xs
drop_next xs i d x e h = rw (e, add-one i) (drop-cons xs i d h)

-- The end of a body ---------------------------------------------------------------------------------------------

notes-finished : (f : Function) (b : Bool) (o : Out Note) → f.gives_int ≡ b → notes_of (finished f o) ≡ notes_of o
notes-finished f true (Normal notes st) e = rw e refl
notes-finished f false (Normal notes st) e = rw e refl
notes-finished f b (Returned notes result st) e = refl
notes-finished f b (Ended notes x w) e = refl
notes-finished f b (Cut notes w) e = refl

pub front-finished : (f : Function) (o : Out Note) → (more : List Note) × (notes_of (finished f o) ≡ notes_of o ++ more)
front-finished f o = ([], notes-finished f f.gives_int o refl ∙ sym (append-nil (notes_of o)))

pub part_finished : {E : Type 0} (f : Function) (w : List ℕ → Out Note) (state : List ℕ → State) (g : Flow) (r : Result Flow E) (h h' : Hearing)
    → HasCome w state g h h'
    → IfOk r (λ after. (notes : List Note) (st : State) → finished f (out_of g notes st) ≡ out_of after notes st)
    → IfOk r (λ after. dry_at (end_of g) ≡ 0 → dry_at (end_of after) ≡ 0)
    → IsPart (λ choices. finished f (w choices)) state r h h'
part_finished f w state g (Ok after) h h' a b d = record {
  notes = a.notes;
  comes = λ choices. ap (finished f) (a.comes choices) ∙ b a.notes (state choices);
  not_dry = d a.not_dry;
  heard = a.heard;
}
part_finished f w state g (Err x) h h' a b d =
    cut_behind w (λ choices. finished f (w choices)) h h' (λ choices. front-finished f (w choices))
    (record { notes = a.notes; front = λ choices. ([], ap notes_of (a.comes choices) ∙ notes-out g a.notes (state choices) ∙ sym (append-nil a.notes)); heard = a.heard })
  where
    notes-out : (g : Flow) (notes : List Note) (st : State) → notes_of (out_of g notes st) ≡ notes
    notes-out flow.Normal notes st = refl
    notes-out (flow.Returned result) notes st = refl
    notes-out (flow.Ended e) notes st = refl
    notes-out flow.Cut notes st = refl

-- A function is left ----------------------------------------------------------------------------------------------

pub front-leaving : (outer : List ℕ) (o : Out Note) → (more : List Note) × (notes_of (leaving contract_mode outer o) ≡ notes_of o ++ more)
front-leaving outer (Normal notes st) = ([], sym (append-nil notes))
front-leaving outer (Returned notes result st) = (map Did (kill_events st.world ++ plain.Return ∷ []), refl)
front-leaving outer (Ended notes x w) = ([], sym (append-nil notes))
front-leaving outer (Cut notes w) = ([], sym (append-nil notes))

left_by : (outer : List ℕ) (g : Flow) (notes : List Note) (st st' : State) → is_return g ≡ true → st' ≡ record st { world = left outer st.world }
    → leaving contract_mode outer (out_of g notes st) ≡ out_of g (notes ++ map Did (kill_events st.world ++ plain.Return ∷ [])) st'
left_by outer flow.Normal notes st st' e f = cc
left_by outer (flow.Returned result) notes st st' e f = rw f refl
left_by outer (flow.Ended x) notes st st' e f = cc
left_by outer flow.Cut notes st st' e f = cc

-- other objects are in force once the function's have died
abbrev in_force : List ℕ → State → State
in_force outer s = record s { world = record s.world { locals = outer } }

relocated : (st m : State) (outer : List ℕ) → m ≡ record st { world = left [] st.world } → ◌≡◌ {A = State} (record m { world = record m.world { locals = outer } }) (record st { world = left outer st.world })
relocated st m outer e = ap (in_force outer) e

pub left_by_return : (outer : List ℕ) (kills : List Event) (g : Flow) (before between after : List ℕ → State) (h k h' : Hearing) → is_return g ≡ true
    → ((choices : List ℕ) → between choices ≡ record (before choices) { world = left [] (before choices).world })
    → ((choices : List ℕ) → after choices ≡ record (between choices) { world = record (between choices).world { locals = outer } })
    → ((choices : List ℕ) → kill_events (before choices).world ≡ kills) → k ≡ told (map Did kills) h → h' ≡ told (Did plain.Return ∷ []) k
    → HasLeft outer g before after h h'
left_by_return outer kills g before between after h k h' e b a n t u = record {
  more = map Did (kills ++ plain.Return ∷ []);
  leaves = λ notes choices.
      left_by outer g notes (before choices) (after choices) e (a choices ∙ relocated (before choices) (between choices) outer (b choices))
      ∙ ap (λ ks. out_of g (notes ++ map Did (ks ++ plain.Return ∷ [])) (after choices)) (n choices);
  heard = told-two (map Did kills) (Did plain.Return ∷ []) h k h' t u ∙ ap (λ ns. told ns h) (sym (came-back kills));
}
  where
    came-back : (ks : List Event) → map Did (ks ++ plain.Return ∷ []) ≡ map Did ks ++ Did plain.Return ∷ []
    came-back [] = refl
    came-back (x ∷ ks) = ap (λ l. Did x ∷ l) (came-back ks)

pub come_left : (w : List ℕ → Out Note) (outer : List ℕ) (g : Flow) (before after : List ℕ → State) (h k l : Hearing)
    → HasCome w before g h k → HasLeft outer g before after k l → HasCome (λ choices. leaving contract_mode outer (w choices)) after g h l
come_left w outer g before after h k l a b = record {
  notes = a.notes ++ b.more;
  comes = λ choices. ap (leaving contract_mode outer) (a.comes choices) ∙ b.leaves a.notes choices;
  not_dry = a.not_dry;
  heard = told-two a.notes b.more h k l a.heard b.heard;
}

-- the newest object dies first
newest : (locals rest : List ℕ) (object : ℕ) → locals ≡ rest ++ object ∷ [] → reverse locals ≡ object ∷ reverse rest
newest locals rest object e = rw e (reverse-append rest (object ∷ []))

pub dies_more : (m m' : Memory) (choices locals rest : List ℕ) (object : ℕ) → locals ≡ rest ++ object ∷ [] → m' ≡ changed object died m
    → ◌≡◌ {A = World} (left [] (record { memory = m'; choices = choices; locals = reverse rest })) (left [] (record { memory = m; choices = choices; locals = reverse locals }))
dies_more m m' choices locals rest object e f = rw (newest locals rest object e, f) refl

pub tells_more : (locals rest : List ℕ) (object : ℕ) (h h' : Hearing) → locals ≡ rest ++ object ∷ [] → h' ≡ happens (plain.Kill object) h
    → told (map Did (map plain.Kill (reverse rest))) h' ≡ told (map Did (map plain.Kill (reverse locals))) h
tells_more locals rest object h h' e f = rw (newest locals rest object e, f) refl

empty : (xs : List ℕ) → length xs ≡ 0 → xs ≡ []
empty [] e = refl
empty (x ∷ xs) e = cc

pub all_dead : (m : Memory) (choices locals locals' : List ℕ) (n n' : ℕ) (w : World) → length locals ≡ 0 → length locals' ≡ 0
    → left [] (record { memory = m; choices = choices; locals = reverse locals }) ≡ w → n ≡ n'
    → ◌≡◌ {A = State} (record { world = record { memory = m; choices = choices; locals = reverse locals' }; left = n }) (record { world = w; left = n' })
all_dead m choices locals locals' n n' w e e' d s = rw (← d, s, empty locals e, empty locals' e') refl

pub few_left : (before after : State) → after ≡ record before { world = left [] before.world } → length before.world.memory ≤ 65535 → length after.world.memory ≤ 65535
few_left before after e h =
    let l : length after.world.memory ≡ length before.world.memory = ap (λ s. length s.world.memory) e ∙ length-kill_all before.world.locals before.world.memory in
    omega arith

-- The ensures -----------------------------------------------------------------------------------------------------

pub front-ensured : (f : Function) (arguments : List ℤ) (o : Out Note) → (more : List Note) × (notes_of (ensured f arguments o) ≡ notes_of o ++ more)
front-ensured f arguments (Normal notes st) = ([], sym (append-nil notes))
front-ensured f arguments (Returned notes result st) = (tested f.name 1 (Clause arguments result) st.world.memory f.contract.ensures_, refl)
front-ensured f arguments (Ended notes x w) = ([], sym (append-nil notes))
front-ensured f arguments (Cut notes w) = ([], sym (append-nil notes))

pub come_tested : (f : Function) (arguments : List ℤ) (w : List ℕ → Out Note) (g : Flow) (state : List ℕ → State) (h k l : Hearing)
    → HasCome w state g h k → AllTested (λ notes choices. ensured f arguments (out_of g notes (state choices))) state g k l
    → HasCome (λ choices. ensured f arguments (w choices)) state g h l
come_tested f arguments w g state h k l a b = record {
  notes = a.notes ++ b.more;
  comes = λ choices. ap (ensured f arguments) (a.comes choices) ∙ b.tests a.notes choices;
  not_dry = a.not_dry;
  heard = told-two a.notes b.more h k l a.heard b.heard;
}

pub cut_tested : (f : Function) (arguments : List ℤ) (w : List ℕ → Out Note) (g : Flow) (state : List ℕ → State) (h k l : Hearing)
    → HasCome w state g h k → SomeTested (λ notes choices. ensured f arguments (out_of g notes (state choices))) k l
    → WasCutOff (λ choices. ensured f arguments (w choices)) h l
cut_tested f arguments w g state h k l a b = record {
  notes = a.notes ++ b.more;
  front = λ choices. ((b.front a.notes choices).0, ap (λ o. notes_of (ensured f arguments o)) (a.comes choices) ∙ (b.front a.notes choices).1);
  heard = told-two a.notes b.more h k l a.heard b.heard;
}

-- Tests one after another -----------------------------------------------------------------------------------------

pub told_more : (all rest rest' xs : List Note) (h k l : Hearing) → IsTold all rest h k → rest ≡ xs ++ rest' → l ≡ told xs k → IsTold all rest' h l
told_more all rest rest' xs h k l p e t = record {
  notes = p.notes ++ xs;
  all_notes = p.all_notes ∙ ap (λ ns. p.notes ++ ns) e ∙ sym (append_assoc p.notes xs rest');
  heard = told-two p.notes xs h k l p.heard t;
}

pub tested_more : (name : List ℕ) (k : ℕ) (scope : Scope) (memory : Memory) (all rest : List code.Clause) (x : code.Clause) → all ≡ x ∷ rest
    → tested name k scope memory (map clause_view all) ≡ checked (postcondition_name name k) (holds (value scope memory (clause_view x))) ++ tested name (k + 1) scope memory (map clause_view rest)
tested_more name k scope memory all rest x e = rw (e, add-one k) refl

pub clause_checked : (name : List ℕ) (k : ℕ) (check : List ℕ) (held held' : Bool) (h h' : Hearing) → h' ≡ told (checked check held) h → check ≡ postcondition_name name k → held ≡ held'
    → h' ≡ told (checked (postcondition_name name k) held') h
clause_checked name k check held held' h h' t e f = rw (← e, ← f) t
