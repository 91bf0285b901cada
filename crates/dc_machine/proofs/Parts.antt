-- Parts of runs, one after another.
use Rattle.std.proofs.Common.{◌≡◌, ℕ, zero, suc, ◌+◌, List, [], ◌∷◌, ◌++◌, Option, Some, None, refl, ap, sym, ◌∙◌, subst, append_assoc, append-nil}
use Rattle.std.specs.Prelude.{Result, Ok, Err, IsErr, IfOk}
use Rattle.dc_core.specs.Event as plain
use Rattle.dc_core.specs.Run.{Note}
use Rattle.dc_core.specs.World.{World}
use Rattle.dc_goto.specs.Program.{GotoProgram}
use Rattle.dc_goto.specs.Machine.{Now, Then, Next, Jumps, Ends, Enters, Leaves, Machine, Run, Going, Stopped, noted, go_on, proceed, step, steps, seen_run}
use Rattle.dc_goto.proofs.Steps.{noted-noted, steps-add}
use Rattle.dc_world.specs.Told.{Supply, IsTaken, Hearing, told}
use Rattle.dc_world.specs.Report.{end_view}
use Rattle.dc_world.specs.declared.report.End.{End}
use Rattle.dc_world.proofs.Drawing.{IsTaken-none, IsTaken-join, told-append}
use Rattle.dc_world.specs.Reported.{dry_at}
use Rattle.dc_machine.specs.Step.{Form, GoesOn, HasEnded, IsCutOff, IsStep, IsAlone, HasRun, IsRun, notes_then, acting, notes_run, running}

-- what takes no number
pub alone-step : {X Y E : Type 0} (form : Form X Y) (run : List ℕ → Y) (state : List ℕ → X) (r : Result (Option End) E) (s : Supply) (h h' : Hearing)
    → IsAlone form run state r h h' → IsStep form run state r s s h h'
alone-step form run state (Ok None) s h h' a = record { numbers = []; notes = a.notes; goes = a.goes; taken = IsTaken-none s; heard = a.heard }
alone-step form run state (Ok (Some end)) s h h' a = record {
  numbers = [];
  notes = a.notes;
  world = a.world;
  ends = a.ends;
  none_left = a.none_left;
  taken = subst (λ k. IsTaken [] k s s) (sym a.not_dry) (IsTaken-none s);
  heard = a.heard;
}
alone-step form run state (Err e) s h h' a = record { numbers = []; notes = []; front = λ rest. (form.notes (run rest), refl); taken = IsTaken-none s; heard = a }

-- an instruction, and the machine behind it
behind_act : (p : GotoProgram) (m : Machine) (t : Then) (notes more : List Note) → notes_then t ≡ notes ++ more → (more : List Note) × (notes_run (proceed p m t) ≡ notes ++ more)
behind_act p m (Next ns s) notes more e = (more, e)
behind_act p m (Jumps place s) [] more e = ([], refl)
behind_act p m (Jumps place s) (n ∷ notes) more e = cc
behind_act p m (Ends ns end w) notes more e = (more, e)
behind_act p m (Enters result name values s) [] more e = (notes_run (proceed p m (Enters result name values s)), refl)
behind_act p m (Enters result name values s) (n ∷ notes) more e = cc
behind_act p m (Leaves value s) [] more e = (notes_run (proceed p m (Leaves value s)), refl)
behind_act p m (Leaves value s) (n ∷ notes) more e = cc

-- the machine behind an instruction that goes on to the next place
abbrev pub placed : Machine → Now → Machine
placed m s = record m { place = suc m.place; now = s }

pub act-goes : (p : GotoProgram) (m : List ℕ → Machine) (acts : List ℕ → Then) (now : List ℕ → Now) (after : List ℕ → Machine) (s s' : Supply) (h h' : Hearing)
    → ((choices rest : List ℕ) → placed (m choices) (now rest) ≡ after rest)
    → GoesOn acting acts now s s' h h' → GoesOn running (λ choices. proceed p (m choices) (acts choices)) after s s' h h'
act-goes p m acts now after s s' h h' e a = record {
  numbers = a.numbers;
  notes = a.notes;
  goes = λ rest. ap (proceed p (m (a.numbers ++ rest))) (a.goes rest) ∙ ap (Going a.notes) (e (a.numbers ++ rest) rest);
  taken = a.taken;
  heard = a.heard;
}

pub act-ends : (p : GotoProgram) (m : List ℕ → Machine) (acts : List ℕ → Then) (end : plain.End) (s s' : Supply) (h h' : Hearing)
    → HasEnded acting acts end s s' h h' → HasEnded running (λ choices. proceed p (m choices) (acts choices)) end s s' h h'
act-ends p m acts end s s' h h' a = record {
  numbers = a.numbers;
  notes = a.notes;
  world = a.world;
  ends = ap (proceed p (m a.numbers)) a.ends;
  none_left = a.none_left;
  taken = a.taken;
  heard = a.heard;
}

pub act-cut : (p : GotoProgram) (m : List ℕ → Machine) (acts : List ℕ → Then) (s s' : Supply) (h h' : Hearing)
    → IsCutOff acting acts s s' h h' → IsCutOff running (λ choices. proceed p (m choices) (acts choices)) s s' h h'
act-cut p m acts s s' h h' a = record {
  numbers = a.numbers;
  notes = a.notes;
  front = λ rest. behind_act p (m (a.numbers ++ rest)) (acts (a.numbers ++ rest)) a.notes (a.front rest).0 (a.front rest).1;
  taken = a.taken;
  heard = a.heard;
}

pub placed-at : (m : Machine) (k : ℕ) (s : Now) → k ≡ suc m.place → placed m s ≡ record m { place = k; now = s }
placed-at m k s e = rw e refl

told-two : (xs ys : List Note) (h k l : Hearing) → k ≡ told xs h → l ≡ told ys k → l ≡ told (xs ++ ys) h
told-two xs ys h k l a b = b ∙ ap (told ys) a ∙ sym (told-append xs ys h)

go_on-noted : (xs : List Note) (r : Run) (f : Machine → Run) → go_on (noted xs r) f ≡ noted xs (go_on r f)
go_on-noted xs (Going notes m) f = sym (noted-noted xs notes (f m))
go_on-noted xs (Stopped notes e w) f = refl

-- steps, and then others
pub go_on-more : (p : GotoProgram) (i j : ℕ) (r : Run) → go_on r (steps p (i + j)) ≡ go_on (go_on r (steps p i)) (steps p j)
go_on-more p i j (Going notes m) = ap (noted notes) (steps-add p i j m) ∙ sym (go_on-noted notes (steps p i m) (steps p j))
go_on-more p i j (Stopped notes e w) = refl

-- the first of several steps
one-more : (p : GotoProgram) (j : ℕ) (notes : List Note) (m : Machine) → go_on (Going notes m) (steps p (suc j)) ≡ noted notes (go_on (step p m) (steps p j))
one-more p j notes m = refl

go_on-zero : (p : GotoProgram) (r : Run) → go_on r (steps p zero) ≡ r
go_on-zero p (Going notes m) = ap (λ ns. Going ns m) (append-nil notes)
go_on-zero p (Stopped notes e w) = refl

-- a run of so many steps from a beginning
abbrev pub after_steps : GotoProgram → (List ℕ → Run) → ℕ → List ℕ → Run
after_steps p begin k choices = go_on (begin choices) (steps p k)

-- a step, and those behind it
after-step : (p : GotoProgram) (begin : List ℕ → Run) (k j : ℕ) (choices : List ℕ) (notes : List Note) (m : Machine) → after_steps p begin k choices ≡ Going notes m
    → after_steps p begin (k + suc j) choices ≡ noted notes (go_on (step p m) (steps p j))
after-step p begin k j choices notes m e = go_on-more p k (suc j) (begin choices) ∙ ap (λ r. go_on r (steps p (suc j))) e

-- no step yet
pub run-none : (p : GotoProgram) (state : List ℕ → Machine) (s : Supply) (h : Hearing) → GoesOn running (after_steps p (λ choices. Going [] (state choices)) 0) state s s h h
run-none p state s h = record { numbers = []; notes = []; goes = λ rest. refl; taken = IsTaken-none s; heard = refl }

before-step : (p : GotoProgram) (begin : List ℕ → Run) (k : ℕ) (state : List ℕ → Machine) (xs ys rest : List ℕ) (notes : List Note)
    → ((rest : List ℕ) → after_steps p begin k (xs ++ rest) ≡ Going notes (state rest)) → after_steps p begin k ((xs ++ ys) ++ rest) ≡ Going notes (state (ys ++ rest))
before-step p begin k state xs ys rest notes goes = ap (after_steps p begin k) (append_assoc xs ys rest) ∙ goes (ys ++ rest)

pub run-more : (p : GotoProgram) (begin : List ℕ → Run) (k n : ℕ) (state state' : List ℕ → Machine) (s t u : Supply) (h i j : Hearing) → n ≡ k + 1
    → GoesOn running (after_steps p begin k) state s t h i → GoesOn running (λ choices. step p (state choices)) state' t u i j
    → GoesOn running (after_steps p begin n) state' s u h j
run-more p begin k n state state' s t u h i j e a b = record {
  numbers = a.numbers ++ b.numbers;
  notes = a.notes ++ b.notes;
  goes = λ rest.
      ap (λ n. after_steps p begin n ((a.numbers ++ b.numbers) ++ rest)) e
      ∙ after-step p begin k zero ((a.numbers ++ b.numbers) ++ rest) a.notes (state (b.numbers ++ rest)) (before-step p begin k state a.numbers b.numbers rest a.notes a.goes)
      ∙ ap (noted a.notes) (go_on-zero p (step p (state (b.numbers ++ rest))) ∙ b.goes rest);
  taken = IsTaken-join a.numbers b.numbers 0 s t u a.taken b.taken;
  heard = told-two a.notes b.notes h i j a.heard b.heard;
}

pub run-end : (p : GotoProgram) (begin : List ℕ → Run) (k n d : ℕ) (state : List ℕ → Machine) (end : plain.End) (s t u : Supply) (h i j : Hearing) → n ≡ k + suc d
    → GoesOn running (after_steps p begin k) state s t h i → HasEnded running (λ choices. step p (state choices)) end t u i j
    → HasRun (after_steps p begin n) end s u h j
run-end p begin k n d state end s t u h i j e a b = record {
  numbers = a.numbers ++ b.numbers;
  notes = a.notes ++ b.notes;
  world = b.world;
  ends =
      ap (seen_run (a.numbers ++ b.numbers)) (
      ap (λ n. after_steps p begin n (a.numbers ++ b.numbers)) e
      ∙ after-step p begin k d (a.numbers ++ b.numbers) a.notes (state b.numbers) (a.goes b.numbers)
      ∙ ap (λ r. noted a.notes (go_on r (steps p d))) b.ends
      );
  none_left = b.none_left;
  taken = IsTaken-join a.numbers b.numbers (dry_at end) s t u a.taken b.taken;
  heard = told-two a.notes b.notes h i j a.heard b.heard;
}

-- no step is left
pub run-out : (p : GotoProgram) (begin : List ℕ → Run) (k n : ℕ) (state : List ℕ → Machine) (s t : Supply) (h i : Hearing) → n ≡ k
    → ((choices : List ℕ) → (state choices).now.world.choices ≡ choices)
    → GoesOn running (after_steps p begin k) state s t h i → HasRun (after_steps p begin n) plain.Cut s t h i
run-out p begin k n state s t h i e left a = record {
  numbers = a.numbers;
  notes = a.notes;
  world = (state []).now.world;
  ends =
      ap (seen_run a.numbers) (
      ap (λ n. after_steps p begin n a.numbers) e
      ∙ ap (after_steps p begin k) (sym (append-nil a.numbers))
      ∙ a.goes []
      );
  none_left = left [];
  taken = a.taken;
  heard = a.heard;
}

notes-noted : (xs : List Note) (r : Run) → notes_run (noted xs r) ≡ xs ++ notes_run r
notes-noted xs (Going notes m) = refl
notes-noted xs (Stopped notes e w) = refl

notes-go_on : (r : Run) (f : Machine → Run) → (more : List Note) × (notes_run (go_on r f) ≡ notes_run r ++ more)
notes-go_on (Going notes m) f = (notes_run (f m), notes-noted notes (f m))
notes-go_on (Stopped notes e w) f = ([], sym (append-nil notes))

front-step : (xs ys : List Note) (r : Run) (f : Machine → Run) → (more : List Note) × (notes_run r ≡ ys ++ more) → (more : List Note) × (notes_run (noted xs (go_on r f)) ≡ (xs ++ ys) ++ more)
front-step xs ys r f a =
    let b = notes-go_on r f in
    (a.0 ++ b.0, notes-noted xs (go_on r f) ∙ ap (λ l. xs ++ l) (b.1 ∙ ap (λ l. l ++ b.0) a.1 ∙ append_assoc ys a.0 b.0) ∙ sym (append_assoc xs ys (a.0 ++ b.0)))

front-along : (r r' : Run) (ys : List Note) → r ≡ r' → (more : List Note) × (notes_run r' ≡ ys ++ more) → (more : List Note) × (notes_run r ≡ ys ++ more)
front-along r r' ys e a = (a.0, ap notes_run e ∙ a.1)

pub run-cut : (p : GotoProgram) (begin : List ℕ → Run) (k n d : ℕ) (state : List ℕ → Machine) (s t u : Supply) (h i j : Hearing) → n ≡ k + suc d
    → GoesOn running (after_steps p begin k) state s t h i → IsCutOff running (λ choices. step p (state choices)) t u i j
    → IsCutOff running (after_steps p begin n) s u h j
run-cut p begin k n d state s t u h i j e a b = record {
  numbers = a.numbers ++ b.numbers;
  notes = a.notes ++ b.notes;
  front = λ rest.
      front-along _ _ (a.notes ++ b.notes)
      (ap (λ n. after_steps p begin n ((a.numbers ++ b.numbers) ++ rest)) e
      ∙ after-step p begin k d ((a.numbers ++ b.numbers) ++ rest) a.notes (state (b.numbers ++ rest)) (before-step p begin k state a.numbers b.numbers rest a.notes a.goes))
      (front-step a.notes b.notes (step p (state (b.numbers ++ rest))) (steps p d) (b.front rest));
  taken = IsTaken-join a.numbers b.numbers 0 s t u a.taken b.taken;
  heard = told-two a.notes b.notes h i j a.heard b.heard;
}

-- a result that wants memory
pub step_cut : {X Y E : Type 0} (form : Form X Y) (run : List ℕ → Y) (state : List ℕ → X) (r : Result (Option End) E) (s s' : Supply) (h h' : Hearing)
    → IsErr r → IsCutOff form run s s' h h' → IsStep form run state r s s' h h'
step_cut form run state (Ok o) s s' h h' i a = cc
step_cut form run state (Err e) s s' h h' i a = a

pub alone_cut : {X Y E : Type 0} (form : Form X Y) (run : List ℕ → Y) (state : List ℕ → X) (r : Result (Option End) E) (h h' : Hearing)
    → IsErr r → h' ≡ h → IsAlone form run state r h h'
alone_cut form run state (Ok o) h h' i e = cc
alone_cut form run state (Err f) h h' i e = e

pub run_cut : {E : Type 0} (run : List ℕ → Run) (r : Result End E) (s s' : Supply) (h h' : Hearing) → IsErr r → IsCutOff running run s s' h h' → IsRun run r s s' h h'
run_cut run (Ok end) s s' h h' i a = cc
run_cut run (Err e) s s' h h' i a = a

pub nothing_done : {X Y : Type 0} (form : Form X Y) (run : List ℕ → Y) (s : Supply) (h : Hearing) → IsCutOff form run s s h h
nothing_done form run s h = record { numbers = []; notes = []; front = λ rest. (form.notes (run rest), refl); taken = IsTaken-none s; heard = refl }

-- ends that are known
pub ends_named : {X Y E : Type 0} (form : Form X Y) (run : List ℕ → Y) (state : List ℕ → X) (end : End) (w : World) (r : Result (Option End) E) (h : Hearing)
    → IfOk r (λ o. o ≡ Some end) → dry_at (end_view end) ≡ 0 → run [] ≡ form.ends [] (end_view end) w → w.choices ≡ [] → IsAlone form run state r h h
ends_named form run state end w (Ok (Some e)) h is dry ends none =
    let same : e ≡ end = cc in
    rw same (record { notes = []; world = w; ends = ends; none_left = none; not_dry = dry; heard = refl })
ends_named form run state end w (Ok None) h is dry ends none = cc
ends_named form run state end w (Err f) h is dry ends none = refl

pub alone_same : {X Y E : Type 0} (form : Form X Y) (run run' : List ℕ → Y) (state : List ℕ → X) (r : Result (Option End) E) (h h' : Hearing)
    → ((choices : List ℕ) → run' choices ≡ run choices) → IsAlone form run state r h h' → IsAlone form run' state r h h'
alone_same form run run' state (Ok None) h h' f a = record { notes = a.notes; goes = λ rest. f rest ∙ a.goes rest; heard = a.heard }
alone_same form run run' state (Ok (Some end)) h h' f a = record { notes = a.notes; world = a.world; ends = f [] ∙ a.ends; none_left = a.none_left; not_dry = a.not_dry; heard = a.heard }
alone_same form run run' state (Err e) h h' f a = a

pub step_same : {X Y E : Type 0} (form : Form X Y) (run run' : List ℕ → Y) (state : List ℕ → X) (r : Result (Option End) E) (s s' : Supply) (h h' : Hearing)
    → ((choices : List ℕ) → run' choices ≡ run choices) → IsStep form run state r s s' h h' → IsStep form run' state r s s' h h'
step_same form run run' state (Ok None) s s' h h' f a = record { numbers = a.numbers; notes = a.notes; goes = λ rest. f (a.numbers ++ rest) ∙ a.goes rest; taken = a.taken; heard = a.heard }
step_same form run run' state (Ok (Some end)) s s' h h' f a = record { numbers = a.numbers; notes = a.notes; world = a.world; ends = f a.numbers ∙ a.ends; none_left = a.none_left; taken = a.taken; heard = a.heard }
step_same form run run' state (Err e) s s' h h' f a = record {
  numbers = a.numbers;
  notes = a.notes;
  front = λ rest. let g = a.front rest in (g.0, ap form.notes (f (a.numbers ++ rest)) ∙ g.1);
  taken = a.taken;
  heard = a.heard;
}
