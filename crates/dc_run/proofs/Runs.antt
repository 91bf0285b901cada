-- Whole runs.
use Rattle.std.proofs.Common.{◌≡◌, ℕ, zero, suc, ◌-◌, Bool, true, false, ℤ, List, [], ◌∷◌, ◌++◌, length, map, Option, None, refl, ap, sym, ◌∙◌, subst, arith, append-nil, append_assoc, length-append}
use Rattle.std.proofs.Math.Path.{fun_ext}
use Rattle.std.specs.Prelude.{Result, Ok, Err, flat_map, IsErr, IfOk, IfSome, OnErr}
use Rattle.dc_core.specs.Event as plain
use Rattle.dc_core.specs.Event.{Event}
use Rattle.dc_core.specs.Choices.{Drawn, Drew, Dry, ◌>>=◌, give, bind, after}
use Rattle.dc_core.specs.Contract.{all_hold}
use Rattle.dc_memory.specs.Objects.{Memory}
use Rattle.dc_core.specs.Entry.{entry_memory, draw_arguments}
use Rattle.dc_core.specs.Outcome.{Outcome}
use Rattle.dc_core.specs.Program.{Function, Program}
use Rattle.dc_core.specs.Run.{State, Out, Normal, Returned, Ended, Cut, Note, Did, noted, notes_of, entered, with_entry, with_arguments, required, with_memory, with_choices, contract_from, start_state, contract_run, plain_report, seen, seen_out, event_of, name_of}
use Rattle.dc_core.specs.Value.{Clause}
use Rattle.dc_core.specs.World.{World}
use Rattle.dc_core.proofs.Enforced.{enforcement_is_plain}
use Rattle.dc_text.specs.Counted.{all_counted, no_counts, raised}
use Rattle.dc_choice.specs.Chosen.{Used}
use Rattle.dc_choice.specs.Heard.{Record, hears_all}
use Rattle.dc_world.specs.Told.{Supply, IsTaken, Hearing, spoken}
use Rattle.dc_world.specs.Report.{end_view}
use Rattle.dc_world.specs.Reported.{IsCutShort, IsReport}
use Rattle.dc_world.specs.Drawing.{HasDrawn, RanDry, BrokeOff, happened}
use Rattle.dc_world.specs.declared.report.End.{End}
use Rattle.dc_world.specs.declared.report.RunReport.{RunReport}
use Rattle.dc_world.proofs.Drawing.{IsTaken-none}
use Rattle.dc_world.proofs.Reported.{told-failed, told-counts, told-records, told-parts, events-append, none_left, run-whole}
use Rattle.dc_run.specs.declared.state.Flow.{Flow}
use Rattle.dc_run.specs.declared.state.Flow.TheVariants as flow
use Rattle.dc_run.specs.Entry.{Start, start_of, starts, admitted_if, admitted}
use Rattle.dc_run.specs.Part.{out_of, end_of, HasCome, WasCutOff}
use Rattle.dc_run.specs.Report.{seen_of, HasRun, WasRefused, IsRun}
use Rattle.dc_run.proofs.Parts.{told-two, notes-noted, noted-out}

events-did : (es : List Event) → flat_map event_of (map Did es) ≡ es
events-did [] = refl
events-did (e ∷ es) = ap (λ l. e ∷ l) (events-did es)

-- The entry -------------------------------------------------------------------------------------------------------

-- the state in which the function is called
abbrev pub called_state : ℕ → Start → List ℕ → State
called_state n s choices = record { world = record { memory = s.memory; choices = choices; locals = [] }; left = n }

from-required : (p : Program) (arguments : List ℤ) (st : State) (es : List Event) (b : Bool) → contract_from p (required p.function arguments st es b) ≡ noted (map Did es) (admitted_if p.function arguments st b)
from-required p arguments st es true = refl
from-required p arguments st es false = ap (λ l. Ended l plain.Blocked st.world) (sym (append-nil (map Did es)))

-- the run, once all is drawn
abbrev drawn_run : Program → ℕ → Drawn Start → Out Note → Type 0
drawn_run p n (Drew s rest es) out = out ≡ noted (map Did es) (admitted p.function s.arguments (called_state n s rest))
drawn_run p n (Dry es) out = (w : World) × (out ≡ Ended (map Did es) plain.ChoicesEnded w) × (w.choices ≡ [])

arguments-drawn : (p : Program) (n : ℕ) (m : Memory) (es : List Event) (st : State) (d : Drawn (List ℤ))
    → ((rest : List ℕ) → with_choices rest st ≡ record { world = record { memory = m; choices = rest; locals = [] }; left = n })
    → drawn_run p n (after es (bind d (λ arguments. give (start_of m arguments)))) (contract_from p (with_arguments p.function st es d))
arguments-drawn p n m es st (Drew arguments rest fs) e =
    let s : with_choices rest st ≡ called_state n (start_of m arguments) rest = e rest in
    let l : es ++ (fs ++ []) ≡ es ++ fs = ap (λ k. es ++ k) (append-nil fs) in
    let same : st.world.memory ≡ m = ap (λ x. x.world.memory) (e []) in
    rw (s, l, same) (from-required p arguments (called_state n (start_of m arguments) rest) (es ++ fs) (all_hold (Clause arguments None) m p.function.contract.requires_))
arguments-drawn p n m es st (Dry fs) e = ((with_choices [] st).world, refl, refl)

memory-drawn : (p : Program) (n : ℕ) (d : Drawn Memory) (choices : List ℕ)
    → drawn_run p n (bind d (λ memory. draw_arguments p.function.params >>= λ arguments. give (start_of memory arguments))) (contract_from p (with_entry p.function (start_state n choices) d))
memory-drawn p n (Drew m rest es) choices =
    arguments-drawn p n m es (with_choices rest (with_memory m (start_state n choices))) (draw_arguments p.function.params rest) (λ others. refl)
memory-drawn p n (Dry es) choices = ((with_choices [] (start_state n choices)).world, refl, refl)

entry-drawn : (p : Program) (n : ℕ) (choices : List ℕ) → drawn_run p n (starts p choices) (contract_from p (entered p (start_state n choices)))
entry-drawn p n choices = memory-drawn p n (entry_memory p choices) choices

drew_run : (p : Program) (n : ℕ) (d : Drawn Start) (s : Start) (rest : List ℕ) (es : List Event) (out : Out Note) → d ≡ Drew s rest es → drawn_run p n d out
    → out ≡ noted (map Did es) (admitted p.function s.arguments (called_state n s rest))
drew_run p n d s rest es out e h = subst (λ x. drawn_run p n x out) e h

dry_run : (p : Program) (n : ℕ) (d : Drawn Start) (es : List Event) (out : Out Note) → d ≡ Dry es → drawn_run p n d out
    → (w : World) × (out ≡ Ended (map Did es) plain.ChoicesEnded w) × (w.choices ≡ [])
dry_run p n d es out e h = subst (λ x. drawn_run p n x out) e h

front_run : (p : Program) (n : ℕ) (d : Drawn Start) (out : Out Note) → drawn_run p n d out → (more : List Note) × (notes_of out ≡ map Did (happened d) ++ more)
front_run p n (Drew s rest es) out h = (notes_of (admitted p.function s.arguments (called_state n s rest)), ap notes_of h ∙ notes-noted (map Did es) (admitted p.function s.arguments (called_state n s rest)))
front_run p n (Dry es) out h = ([], ap notes_of h.1 ∙ sym (append-nil (map Did es)))

-- What is seen ----------------------------------------------------------------------------------------------------

seen-flow : (choices : List ℕ) (f : Flow) (notes : List Note) (st : State) → seen_out choices (out_of f notes st) ≡ seen choices notes (end_of f) st.world
seen-flow choices flow.Normal notes st = refl
seen-flow choices (flow.Returned result) notes st = refl
seen-flow choices (flow.Ended e) notes st = refl
seen-flow choices flow.Cut notes st = refl

seen-used : (numbers rest : List ℕ) (notes : List Note) (end : plain.End) (w : World) → w.choices ≡ rest → seen (numbers ++ rest) notes end w ≡ seen_of numbers notes end w.memory
seen-used numbers rest notes end w e =
    ap (λ n. record { names = flat_map name_of notes; events = flat_map event_of notes; end = end; used = n; memory = w.memory })
    (let l : length (numbers ++ rest) - length w.choices ≡ length numbers = rw e (omega (arith, length-append numbers rest)) in l)

events-seen : (choices : List ℕ) (out : Out Note) → (seen_out choices out).events ≡ flat_map event_of (notes_of out)
events-seen choices (Normal notes st) = refl
events-seen choices (Returned notes result st) = refl
events-seen choices (Ended notes e w) = refl
events-seen choices (Cut notes w) = refl

run-steps : (p : Program) (n m : ℕ) (choices : List ℕ) → n ≡ suc m → contract_run p n choices ≡ seen_out choices (contract_from p (entered p (start_state m choices)))
run-steps p n m choices e = rw e refl

-- Runs ------------------------------------------------------------------------------------------------------------

-- there was no step
pub run_without_steps : (p : Program) (n : ℕ) (s : Supply) (h : Hearing) → n ≡ 0 → HasRun (contract_run p n) plain.Cut s s h h
run_without_steps p n s h e = record {
  numbers = [];
  notes = [];
  memory = [];
  sees = λ rest u. rw e (seen-used [] rest [] plain.Cut (start_state zero rest).world refl);
  taken = IsTaken-none s;
  heard = refl;
}

-- the choices came to their end
pub run_dry : (p : Program) (n m : ℕ) (s s' : Supply) (h h' : Hearing) → n ≡ suc m → RanDry (starts p) s s' h h' → HasRun (contract_run p n) plain.ChoicesEnded s s' h h'
run_dry p n m s s' h h' e d =
    let x = dry_run p m (starts p d.numbers) d.events _ d.ended (entry-drawn p m d.numbers) in
    record {
      numbers = d.numbers;
      notes = map Did d.events;
      memory = x.0.memory;
      sees = λ rest u.
          ap (λ r. contract_run p n (d.numbers ++ r)) (u refl)
          ∙ ap (contract_run p n) (append-nil d.numbers)
          ∙ run-steps p n m d.numbers e
          ∙ ap (seen_out d.numbers) x.1
          ∙ ap (λ c. seen c (map Did d.events) plain.ChoicesEnded x.0) (sym (append-nil d.numbers))
          ∙ seen-used d.numbers [] (map Did d.events) plain.ChoicesEnded x.0 x.2;
      taken = d.taken;
      heard = d.heard;
    }

-- memory was wanting before the call
pub run_refused_early : (p : Program) (n m : ℕ) (s s' : Supply) (h h' : Hearing) → n ≡ suc m → BrokeOff (starts p) s s' h h' → WasRefused (contract_run p n) s s' h h'
run_refused_early p n m s s' h h' e d = record {
  numbers = d.numbers;
  notes = map Did d.events;
  front = λ rest.
      let choices = d.numbers ++ rest in
      let out = contract_from p (entered p (start_state m choices)) in
      let f = front_run p m (starts p choices) out (entry-drawn p m choices) in
      let b = d.front rest in (
        b.0 ++ flat_map event_of f.0,
        ap (λ o. o.events) (run-steps p n m choices e)
            ∙ events-seen choices out
            ∙ ap (flat_map event_of) f.1
            ∙ events-append (map Did (happened (starts p choices))) f.0
            ∙ ap (λ l. l ++ flat_map event_of f.0) (events-did (happened (starts p choices)) ∙ b.1 ∙ ap (λ l. l ++ b.0) (sym (events-did d.events)))
            ∙ append_assoc (flat_map event_of (map Did d.events)) b.0 (flat_map event_of f.0),
      );
  taken = d.taken;
  heard = d.heard;
}

-- the call with its ensures, once all is drawn
pub run_called : (p : Program) (n m : ℕ) (start : Start) (state : List ℕ → State) (f : Flow) (s s' : Supply) (h k l : Hearing) → n ≡ suc m
    → ((rest : List ℕ) → (state rest).world.choices ≡ rest) → ((rest : List ℕ) → (state rest).world.memory ≡ (state []).world.memory)
    → HasDrawn (starts p) start s s' h k → HasCome (λ choices. admitted p.function start.arguments (called_state m start choices)) state f k l
    → HasRun (contract_run p n) (end_of f) s s' h l
run_called p n m start state f s s' h k l e cs ms d a = record {
  numbers = d.numbers;
  notes = map Did d.events ++ a.notes;
  memory = (state []).world.memory;
  sees = λ rest u.
      run-steps p n m (d.numbers ++ rest) e
      ∙ ap (seen_out (d.numbers ++ rest))
      (drew_run p m (starts p (d.numbers ++ rest)) start rest d.events _ (d.drew rest) (entry-drawn p m (d.numbers ++ rest))
      ∙ ap (noted (map Did d.events)) (a.comes rest)
      ∙ noted-out f (map Did d.events) a.notes (state rest))
      ∙ seen-flow (d.numbers ++ rest) f (map Did d.events ++ a.notes) (state rest)
      ∙ seen-used d.numbers rest (map Did d.events ++ a.notes) (end_of f) (state rest).world (cs rest)
      ∙ ap (seen_of d.numbers (map Did d.events ++ a.notes) (end_of f)) (ms rest);
  taken = subst (λ x. IsTaken d.numbers x s s') (sym a.not_dry) d.taken;
  heard = told-two (map Did d.events) a.notes h k l d.heard a.heard;
}

-- memory was wanting in the call
pub run_refused : (p : Program) (n m : ℕ) (start : Start) (s s' : Supply) (h k l : Hearing) → n ≡ suc m
    → HasDrawn (starts p) start s s' h k → WasCutOff (λ choices. admitted p.function start.arguments (called_state m start choices)) k l
    → WasRefused (contract_run p n) s s' h l
run_refused p n m start s s' h k l e d a = record {
  numbers = d.numbers;
  notes = map Did d.events ++ a.notes;
  front = λ rest.
      let choices = d.numbers ++ rest in
      let called = admitted p.function start.arguments (called_state m start rest) in
      let b = a.front rest in (
        flat_map event_of b.0,
        ap (λ o. o.events) (run-steps p n m choices e)
            ∙ events-seen choices (contract_from p (entered p (start_state m choices)))
            ∙ ap (λ o. flat_map event_of (notes_of o)) (drew_run p m (starts p choices) start rest d.events _ (d.drew rest) (entry-drawn p m choices))
            ∙ ap (flat_map event_of) (notes-noted (map Did d.events) called ∙ ap (λ ns. map Did d.events ++ ns) b.1 ∙ sym (append_assoc (map Did d.events) a.notes b.0))
            ∙ events-append (map Did d.events ++ a.notes) b.0,
      );
  taken = d.taken;
  heard = told-two (map Did d.events) a.notes h k l d.heard a.heard;
}

pub run_wanting : {E : Type 0} (run : List ℕ → Outcome) (r : Result End E) (s s' : Supply) (h h' : Hearing) → IsErr r → WasRefused run s s' h h' → IsRun run r s s' h h'
run_wanting run (Ok e) s s' h h' i b = cc
run_wanting run (Err x) s s' h h' i b = b

-- Reports ---------------------------------------------------------------------------------------------------------

-- what a report says of a run, which began with nothing
pub report_of : (run : List ℕ → Outcome) (used : List ℕ) (end : End) (s s' : Supply) (h h' : Hearing) → used ≡ s'.used → s.used ≡ [] → h.failed ≡ [] → h.counts ≡ no_counts
    → HasRun run (end_view end) s s' h h'
    → IsReport run (record { failed = h'.failed; end = end; used = used; counts = h'.counts }) s.left s'.left s.given s'.given s.dry s'.dry h.records h'.records
report_of run used end s s' h h' same empty none zeros a =
    let n : used ≡ a.numbers = same ∙ a.taken.used ∙ ap (λ l. l ++ a.numbers) empty in
    let o : run used ≡ seen_of a.numbers a.notes (end_view end) a.memory = ap run (n ∙ sym (append-nil a.numbers)) ∙ a.sees [] (λ e. refl) in
    let left : Used s.left s'.left used = subst (Used s.left s'.left) (sym n) a.taken.left in
    let ended : end_view end ≡ plain.ChoicesEnded → IfSome s'.left (λ rest. rest ≡ []) = none_left (end_view end) a.numbers s s' a.taken in
    record {
      failed = ap (λ k. k.failed) a.heard ∙ told-failed a.notes h ∙ ap (λ l. l ++ flat_map name_of a.notes) none ∙ sym (ap (λ x. x.names) o);
      ends = sym (ap (λ x. x.end) o);
      taken = ap length n ∙ sym (ap (λ x. x.used) o);
      counts = ap (λ k. k.counts) a.heard ∙ told-counts a.notes h ∙ ap (all_counted (map spoken (flat_map event_of a.notes))) zeros ∙ ap (λ l. all_counted (map spoken l) no_counts) (sym (ap (λ x. x.events) o));
      whole = run-whole run (end_view end) used s.left s'.left left ended (λ rest m. ap (λ l. run (l ++ rest)) n ∙ a.sees rest m ∙ sym o);
      used = left;
      given = a.taken.given ∙ ap (λ l. raised s.given (length l)) (sym n);
      dry = a.taken.dry;
      ended = ended;
      heard = ap (λ k. k.records) a.heard ∙ told-records a.notes h ∙ ap (λ l. map (hears_all (map spoken l)) h.records) (sym (ap (λ x. x.events) o));
    }

pub parts_after : (run : List ℕ → Outcome) (end : plain.End) (s s' : Supply) (h h' : Hearing) → HasRun run end s s' h h' → h'.parts ≡ h.parts
parts_after run end s s' h h' a = ap (λ k. k.parts) a.heard ∙ told-parts a.notes h

pub cut_short : {T E : Type 0} (run : List ℕ → Outcome) (r : Result T E) (s s' : Supply) (h h' : Hearing) → WasRefused run s s' h h' → OnErr r (IsCutShort run s.left s'.left h.records h'.records)
cut_short run (Ok v) s s' h h' a = tt
cut_short run (Err e) s s' h h' a = record {
  numbers = a.numbers;
  events = flat_map event_of a.notes;
  front = a.front;
  taken = a.taken.left;
  heard = ap (λ k. k.records) a.heard ∙ told-records a.notes h;
}

pub parts_refused : (run : List ℕ → Outcome) (s s' : Supply) (h h' : Hearing) → WasRefused run s s' h h' → h'.parts ≡ h.parts
parts_refused run s s' h h' a = ap (λ k. k.parts) a.heard ∙ told-parts a.notes h

-- a call of a function is one of what is seen of it
pub come_with : (f g : Function) (arguments : List ℤ) (state after : List ℕ → State) (flow : Flow) (h h' : Hearing) → g ≡ f → HasCome (λ choices. admitted f arguments (state choices)) after flow h h' → HasCome (λ choices. admitted g arguments (state choices)) after flow h h'
come_with f g arguments state after flow h h' e a = subst (λ f. HasCome (λ choices. admitted f arguments (state choices)) after flow h h') (sym e) a

pub cut_with : (f g : Function) (arguments : List ℤ) (state : List ℕ → State) (h h' : Hearing) → g ≡ f → WasCutOff (λ choices. admitted f arguments (state choices)) h h' → WasCutOff (λ choices. admitted g arguments (state choices)) h h'
cut_with f g arguments state h h' e a = subst (λ f. WasCutOff (λ choices. admitted f arguments (state choices)) h h') (sym e) a

pub run_parts : {E : Type 0} (run : List ℕ → Outcome) (r : Result End E) (s s' : Supply) (h h' : Hearing) → IsRun run r s s' h h' → h'.parts ≡ h.parts
run_parts run (Ok end) s s' h h' a = parts_after run (end_view end) s s' h h' a
run_parts run (Err e) s s' h h' a = parts_refused run s s' h h' a

pub run_of_said : {E : Type 0} (p q : Program) (n : ℕ) (r : Result End E) (s s' : Supply) (h h' : Hearing) → p ≡ q → IsRun (contract_run p n) r s s' h h' → IsRun (contract_run q n) r s s' h h'
run_of_said p q n r s s' h h' e a = subst (λ p. IsRun (contract_run p n) r s s' h h') e a

pub ok_map : {T E : Type 0} {P Q : T → Type 0} (r : Result T E) → ((v : T) → P v → Q v) → IfOk r P → IfOk r Q
ok_map (Ok v) f p = f v p
ok_map (Err e) f p = tt

-- The plain run ---------------------------------------------------------------------------------------------------

pub report_plain : {E : Type 0} (p : Program) (n : ℕ) (r : Result RunReport E) (left left' : Option (List ℕ)) (g g' d d' : ℕ) (records records' : List Record)
    → IfOk r (λ v. IsReport (contract_run p n) v left left' g g' d d' records records') → IfOk r (λ v. IsReport (plain_report p n) v left left' g g' d d' records records')
report_plain p n r left left' g g' d d' records records' h =
    subst (λ run. IfOk r (λ v. IsReport run v left left' g g' d d' records records')) (fun_ext (enforcement_is_plain p n)) h

pub cut_plain : {T E : Type 0} (p : Program) (n : ℕ) (r : Result T E) (left left' : Option (List ℕ)) (records records' : List Record)
    → OnErr r (IsCutShort (contract_run p n) left left' records records') → OnErr r (IsCutShort (plain_report p n) left left' records records')
cut_plain p n r left left' records records' h =
    subst (λ run. OnErr r (IsCutShort run left left' records records')) (fun_ext (enforcement_is_plain p n)) h
