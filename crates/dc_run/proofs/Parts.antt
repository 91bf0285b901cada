-- Parts of runs, one after another.
use Rattle.std.proofs.Common.{◌≡◌, ℕ, true, false, List, [], ◌++◌, refl, ap, sym, ◌∙◌, append_assoc, append-nil}
use Rattle.std.specs.Prelude.{Result, Ok, Err, IsErr}
use Rattle.dc_core.specs.Run.{State, Out, Normal, Returned, Ended, Cut, Note, noted, notes_of, then_do}
use Rattle.dc_core.proofs.Outs.{noted-nil, noted-noted}
use Rattle.dc_world.specs.Told.{Hearing, told}
use Rattle.dc_world.proofs.Drawing.{told-append}
use Rattle.dc_run.specs.declared.state.Flow.{Flow}
use Rattle.dc_run.specs.declared.state.Flow.TheVariants as flow
use Rattle.dc_run.specs.Part.{out_of, goes_on, HasCome, WasCutOff, IsPart, IsResumed}

pub told-two : (xs ys : List Note) (h k l : Hearing) → k ≡ told xs h → l ≡ told ys k → l ≡ told (xs ++ ys) h
told-two xs ys h k l a b = b ∙ ap (told ys) a ∙ sym (told-append xs ys h)

pub notes-noted : (xs : List Note) (o : Out Note) → notes_of (noted xs o) ≡ xs ++ notes_of o
notes-noted xs (Normal notes st) = refl
notes-noted xs (Returned notes result st) = refl
notes-noted xs (Ended notes e w) = refl
notes-noted xs (Cut notes w) = refl

pub noted-out : (f : Flow) (xs notes : List Note) (st : State) → noted xs (out_of f notes st) ≡ out_of f (xs ++ notes) st
noted-out flow.Normal xs notes st = refl
noted-out (flow.Returned result) xs notes st = refl
noted-out (flow.Ended e) xs notes st = refl
noted-out flow.Cut xs notes st = refl

-- nothing was told
pub cut_at_once : (out : List ℕ → Out Note) (h h' : Hearing) → h' ≡ h → WasCutOff out h h'
cut_at_once out h h' e = record { notes = []; front = λ choices. (notes_of (out choices), refl); heard = e }

pub part_refused : {E : Type 0} (out : List ℕ → Out Note) (state : List ℕ → State) (r : Result Flow E) (h h' : Hearing) → IsErr r → WasCutOff out h h' → IsPart out state r h h'
part_refused out state (Ok f) h h' e b = cc
part_refused out state (Err x) h h' e b = b

pub part_same : {E : Type 0} (out out' : List ℕ → Out Note) (state : List ℕ → State) (r : Result Flow E) (h h' : Hearing)
    → ((choices : List ℕ) → out choices ≡ out' choices) → IsPart out' state r h h' → IsPart out state r h h'
part_same out out' state (Ok f) h h' e a = record { notes = a.notes; comes = λ choices. e choices ∙ a.comes choices; not_dry = a.not_dry; heard = a.heard }
part_same out out' state (Err x) h h' e a =
    record { notes = a.notes; front = λ choices. ((a.front choices).0, ap notes_of (e choices) ∙ (a.front choices).1); heard = a.heard }

pub resumed_none : (w r : List ℕ → Out Note) (h : Hearing) → ((choices : List ℕ) → w choices ≡ r choices) → IsResumed w r h h
resumed_none w r h e = record { notes = []; goes = λ choices. e choices ∙ sym (noted-nil (r choices)); heard = refl }

pub resumed_front : (r : List ℕ → Out Note) (notes : List Note) (h k : Hearing) → k ≡ told notes h → IsResumed (λ choices. noted notes (r choices)) r h k
resumed_front r notes h k e = record { notes = notes; goes = λ choices. refl; heard = e }

-- more of it is done
pub resumed_more : (w r r' : List ℕ → Out Note) (notes : List Note) (h k l : Hearing)
    → IsResumed w r h k → ((choices : List ℕ) → r choices ≡ noted notes (r' choices)) → l ≡ told notes k → IsResumed w r' h l
resumed_more w r r' notes h k l p e t = record {
  notes = p.notes ++ notes;
  goes = λ choices. p.goes choices ∙ ap (noted p.notes) (e choices) ∙ noted-noted p.notes notes (r' choices);
  heard = told-two p.notes notes h k l p.heard t;
}

pub resumed_same : (w r r' : List ℕ → Out Note) (h k : Hearing) → IsResumed w r h k → ((choices : List ℕ) → r choices ≡ r' choices) → IsResumed w r' h k
resumed_same w r r' h k p e = record { notes = p.notes; goes = λ choices. p.goes choices ∙ ap (noted p.notes) (e choices); heard = p.heard }

-- memory is wanting in the rest, or before it
pub resumed_cut : (w r : List ℕ → Out Note) (h k l : Hearing) → IsResumed w r h k → WasCutOff r k l → WasCutOff w h l
resumed_cut w r h k l p q = record {
  notes = p.notes ++ q.notes;
  front = λ choices. (
    (q.front choices).0,
    ap notes_of (p.goes choices) ∙ notes-noted p.notes (r choices) ∙ ap (λ ns. p.notes ++ ns) (q.front choices).1 ∙ sym (append_assoc p.notes q.notes (q.front choices).0),
  );
  heard = told-two p.notes q.notes h k l p.heard q.heard;
}

pub resumed_stop : (w r : List ℕ → Out Note) (h k l : Hearing) → IsResumed w r h k → l ≡ k → WasCutOff w h l
resumed_stop w r h k l p e = resumed_cut w r h k l p (cut_at_once r k l e)

pub resumed_come : (w r : List ℕ → Out Note) (state : List ℕ → State) (f : Flow) (h k l : Hearing) → IsResumed w r h k → HasCome r state f k l → HasCome w state f h l
resumed_come w r state f h k l p q = record {
  notes = p.notes ++ q.notes;
  comes = λ choices. p.goes choices ∙ ap (noted p.notes) (q.comes choices) ∙ noted-out f p.notes q.notes (state choices);
  not_dry = q.not_dry;
  heard = told-two p.notes q.notes h k l p.heard q.heard;
}

-- what is done last ends the whole
pub resumed_last : {E : Type 0} (w r : List ℕ → Out Note) (state : List ℕ → State) (result : Result Flow E) (h k l : Hearing)
    → IsResumed w r h k → IsPart r state result k l → IsPart w state result h l
resumed_last w r state (Ok f) h k l p q = resumed_come w r state f h k l p q
resumed_last w r state (Err x) h k l p q = resumed_cut w r h k l p q

-- a statement, and those behind it -------------------------------------------------------------------------------

stops-out : (f : Flow) (notes : List Note) (st : State) (go : State → Out Note) → goes_on f ≡ false → then_do (out_of f notes st) go ≡ out_of f notes st
stops-out flow.Normal notes st go e = cc
stops-out (flow.Returned result) notes st go e = refl
stops-out (flow.Ended x) notes st go e = refl
stops-out flow.Cut notes st go e = refl

-- a part that doesn't go on ends the list
pub part_stops : (part w : List ℕ → Out Note) (go : List ℕ → State → Out Note) (state : List ℕ → State) (f : Flow) (h h' : Hearing)
    → ((choices : List ℕ) → w choices ≡ then_do (part choices) (go choices)) → goes_on f ≡ false → HasCome part state f h h' → HasCome w state f h h'
part_stops part w go state f h h' e s a = record {
  notes = a.notes;
  comes = λ choices. e choices ∙ ap (λ o. then_do o (go choices)) (a.comes choices) ∙ stops-out f a.notes (state choices) (go choices) s;
  not_dry = a.not_dry;
  heard = a.heard;
}

front-then : (o : Out Note) (go : State → Out Note) → (more : List Note) × (notes_of (then_do o go) ≡ notes_of o ++ more)
front-then (Normal notes st) go = (notes_of (go st), notes-noted notes (go st))
front-then (Returned notes result st) go = ([], sym (append-nil notes))
front-then (Ended notes e w) go = ([], sym (append-nil notes))
front-then (Cut notes w) go = ([], sym (append-nil notes))

-- what comes behind a part that was cut off
pub cut_behind : (part w : List ℕ → Out Note) (h h' : Hearing)
    → ((choices : List ℕ) → (more : List Note) × (notes_of (w choices) ≡ notes_of (part choices) ++ more)) → WasCutOff part h h' → WasCutOff w h h'
cut_behind part w h h' e a = record {
  notes = a.notes;
  front = λ choices. (
    (a.front choices).0 ++ (e choices).0,
    (e choices).1 ∙ ap (λ ns. ns ++ (e choices).0) (a.front choices).1 ∙ append_assoc a.notes (a.front choices).0 (e choices).0,
  );
  heard = a.heard;
}

along-then : (o w : Out Note) (go : State → Out Note) → w ≡ then_do o go → (more : List Note) × (notes_of w ≡ notes_of o ++ more)
along-then o w go e = ((front-then o go).0, ap notes_of e ∙ (front-then o go).1)

pub cut_then : (part w : List ℕ → Out Note) (go : List ℕ → State → Out Note) (h h' : Hearing)
    → ((choices : List ℕ) → w choices ≡ then_do (part choices) (go choices)) → WasCutOff part h h' → WasCutOff w h h'
cut_then part w go h h' e a = cut_behind part w h h' (λ choices. along-then (part choices) (w choices) (go choices) (e choices)) a

goes-out : (f : Flow) (notes : List Note) (st : State) (go : State → Out Note) → goes_on f ≡ true → then_do (out_of f notes st) go ≡ noted notes (go st)
goes-out flow.Normal notes st go e = refl
goes-out (flow.Returned result) notes st go e = cc
goes-out (flow.Ended x) notes st go e = cc
goes-out flow.Cut notes st go e = cc

-- a part that goes on is followed by the others
pub resumed_part : (w r part : List ℕ → Out Note) (go : List ℕ → State → Out Note) (state : List ℕ → State) (f : Flow) (h k l : Hearing)
    → IsResumed w r h k → ((choices : List ℕ) → r choices ≡ then_do (part choices) (go choices)) → goes_on f ≡ true → HasCome part state f k l
    → IsResumed w (λ choices. go choices (state choices)) h l
resumed_part w r part go state f h k l p e g a =
    resumed_more w r (λ choices. go choices (state choices)) a.notes h k l p
    (λ choices. e choices ∙ ap (λ o. then_do o (go choices)) (a.comes choices) ∙ goes-out f a.notes (state choices) (go choices) g)
    a.heard
