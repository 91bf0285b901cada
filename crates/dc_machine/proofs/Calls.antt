-- Calls and returns, each by what is known of it.
use Rattle.std.proofs.Common.{◌≡◌, ℕ, ◌<◌, ◌≤◌, ℤ, true, false, List, [], ◌∷◌, ◌++◌, length, map, reverse, Option, Some, None, refl, ap, sym, ◌∙◌, arith}
use Rattle.std.specs.Prelude.{slice_get, option_map, option_and_then, nat_lt, Result, Ok, IfOk}
use Rattle.std.proofs.lemmas.List.{length-map, length-reverse, map-append}
use Rattle.std.proofs.lemmas.Option.{slice_get-map}
use Rattle.std.proofs.lemmas.Bool.Decides.{nat_tests}
use Rattle.dc_core.specs.Event as plain
use Rattle.dc_core.specs.Run.{Note, Did}
use Rattle.dc_core.specs.World.{left, kill_events}
use Rattle.dc_goto.specs.Program as goto
use Rattle.dc_goto.specs.Program.{GotoProgram, Body}
use Rattle.dc_goto.specs.Machine.{Now, Machine, Frame, Run, Going, Stopped, noted, act, proceed, entered, entered_body, caller, body_of, first_registers, depth_limit, left_body, with_result, function_number, step}
use Rattle.dc_world.specs.Told.{Hearing, noted as hears, happens, told}
use Rattle.dc_world.proofs.Drawing.{told-append}
use Rattle.dc_world.specs.declared.report.End.{End}
use Rattle.dc_world.specs.declared.report.End.TheVariants as end
use Rattle.dc_core.specs.World.{World}
use Rattle.dc_machine.proofs.Parts.{ends_named}
use Rattle.dc_machine.specs.Step.{IsAlone, running}
use Rattle.dc_machine.specs.View.{name_at, code_at}

pub entered-none : (m : Machine) (s : Now) (r : Option ℕ) (name : List ℕ) (values : List ℤ) (o : Option Body) → o ≡ None → entered_body m s r name values o ≡ Stopped [] (plain.NoBody name) s.world
entered-none m s r name values o e = rw e refl

pub entered-some : (m : Machine) (s : Now) (r : Option ℕ) (name : List ℕ) (values : List ℤ) (o : Option Body) (b : Body) → o ≡ Some b → entered_body m s r name values o ≡ entered_body m s r name values (Some b)
entered-some m s r name values o b e = ap (entered_body m s r name values) e

pub entered-as : (m mc : Machine) (s : Now) (r : Option ℕ) (name : List ℕ) (values : List ℤ) (bodies : List Body) (k : ℕ) (b : Body) → slice_get bodies k ≡ Some b → b.name ≡ name
    → mc ≡ record { name = name_at (slice_get bodies k); code = code_at (slice_get bodies k); place = 0; frames = caller m s r ∷ m.frames; now = record s { regs = first_registers b values; world = record s.world { locals = [] } } }
    → entered_body m s r name values (Some b) ≡ Going [] mc
entered-as m mc s r name values bodies k b e g f = ap (Going []) (sym (f ∙ rw (e, g) refl))

pub some-same : {A : Type 0} (a b : A) → ◌≡◌ {A = Option A} (Some a) (Some b) → a ≡ b
some-same a b e = cc

pub frames-count : {A B : Type 0} (f : A → B) (xs : List A) → length (reverse (map f xs)) ≡ length xs
frames-count f xs = length-reverse (map f xs) ∙ length-map xs f

pub depth-reached : (p : GotoProgram) (m : Machine) (s : Now) (r : Option ℕ) (name : List ℕ) (values : List ℤ) (n : ℕ) → n ≡ length m.frames → 1024 ≤ n
    → entered p m s r name values (nat_lt (length m.frames) depth_limit) ≡ Stopped [] plain.DepthLimit s.world
unfolding depth_limit
depth-reached p m s r name values n e le =
    let t : nat_lt (length m.frames) 1024 ≡ false = grind (arith, nat_tests) in
    rw t refl

pub depth-left : (p : GotoProgram) (m : Machine) (s : Now) (r : Option ℕ) (name : List ℕ) (values : List ℤ) (n k : ℕ) → n ≡ length m.frames → n < 1024 → k ≡ function_number 1 p.functions name
    → entered p m s r name values (nat_lt (length m.frames) depth_limit) ≡ noted (Did (plain.Call k) ∷ []) (entered_body m s r name values (body_of p.bodies name))
unfolding depth_limit
depth-left p m s r name values n k e lt f =
    let t : nat_lt (length m.frames) 1024 ≡ true = grind (arith, nat_tests) in
    rw (t, f) refl

-- a run that comes to something without meaning
pub run_undefined : {E : Type 0} (name : List ℕ) (run : List ℕ → Run) (state : List ℕ → Machine) (w : World) (r : Result (Option End) E) (h : Hearing)
    → run [] ≡ Stopped [] (plain.Undefined name) w → w.choices ≡ [] → IfOk r (λ x. x ≡ Some (end.Undefined name)) → IsAlone running run state r h h
run_undefined name run state w r h e dry is = ends_named running run state (end.Undefined name) w r h is refl e dry

-- a note before those of what takes no number
pub noted-alone : (E : Type 0) (n : Note) (run run' : List ℕ → Run) (state : List ℕ → Machine) (o : Option End) (h k : Hearing) → k ≡ hears n h
    → ((choices : List ℕ) → run' choices ≡ noted (n ∷ []) (run choices)) → IsAlone {E = E} running run state (Ok o) k k → IsAlone {E = E} running run' state (Ok o) h k
noted-alone E n run run' state None h k e f a = record {
  notes = n ∷ a.notes;
  goes = λ rest. f rest ∙ ap (noted (n ∷ [])) (a.goes rest);
  heard = a.heard ∙ ap (told a.notes) e;
}
noted-alone E n run run' state (Some end) h k e f a = record {
  notes = n ∷ a.notes;
  world = a.world;
  ends = f [] ∙ ap (noted (n ∷ [])) a.ends;
  none_left = a.none_left;
  not_dry = a.not_dry;
  heard = a.heard ∙ ap (told a.notes) e;
}

-- what is left by a return ----------------------------------------------------------------------------------------

empty-of : {A : Type 0} (xs : List A) → length xs ≡ 0 → xs ≡ []
empty-of [] e = refl
empty-of (x ∷ xs) e = absurd (omega arith)

pub no-frames : {A B : Type 0} (f : A → B) (xs : List A) → length xs ≡ 0 → reverse (map f xs) ≡ []
no-frames f xs e = ap (λ l. reverse (map f l)) (empty-of xs e)

pub left-last : (s : Now) (value : Option ℤ) (frames : List Frame) → frames ≡ [] → left_body s value frames ≡ Stopped (map Did (kill_events s.world)) (plain.Returned value) (left [] s.world)
left-last s value frames e = rw e refl

pub left-next : (s s' : Now) (value : Option ℤ) (f : Frame) (frames fs : List Frame) (mc : Machine) → frames ≡ f ∷ fs → s' ≡ record s { world = left [] s.world }
    → mc ≡ record { name = f.name; code = f.code; place = f.place; frames = fs; now = record s' { regs = with_result f.result value f.regs; world = record s'.world { locals = f.locals } } }
    → left_body s value frames ≡ Going (map Did (kill_events s.world ++ plain.Return ∷ [])) mc
left-next s s' value f frames fs mc e g h = rw (e, h, g) refl

pub told-return : (es : List plain.Event) (h k l : Hearing) → k ≡ told (map Did es) h → l ≡ happens plain.Return k → l ≡ told (map Did (es ++ plain.Return ∷ [])) h
told-return es h k l a b = b ∙ ap (happens plain.Return) a ∙ rw map-append (sym (told-append (map Did es) (Did plain.Return ∷ []) h))

-- a body of a number
pub body-at : (bodies : List Body) (k : ℕ) (o : Option ℕ) (b : Option Body) → o ≡ Some k → slice_get bodies k ≡ b → option_and_then (slice_get bodies) o ≡ b
body-at bodies k o b e f = rw e f

-- steps -----------------------------------------------------------------------------------------------------------

-- a machine in the body of a number
abbrev pub machine_in : List Body → ℕ → ℕ → List Frame → Now → Machine
machine_in bodies k place frames now =
    record { name = name_at (slice_get bodies k); code = code_at (slice_get bodies k); place = place; frames = frames; now = now }

pub step-bodiless : (p : GotoProgram) (bodies : List Body) (k place : ℕ) (frames : List Frame) (now : Now) → slice_get bodies k ≡ None
    → step p (machine_in bodies k place frames now) ≡ Stopped [] (plain.Undefined []) now.world
step-bodiless p bodies k place frames now e = rw e refl

pub step-past : (p : GotoProgram) (bodies : List Body) (k place : ℕ) (frames : List Frame) (now : Now) (b : Body) → slice_get bodies k ≡ Some b → slice_get b.code place ≡ None
    → step p (machine_in bodies k place frames now) ≡ Stopped [] (plain.Undefined b.name) now.world
step-past p bodies k place frames now b e f = rw (e, f) refl

pub step-at : (p : GotoProgram) (bodies : List Body) (k place : ℕ) (frames : List Frame) (now : Now) (b : Body) (i : goto.Instr) → slice_get bodies k ≡ Some b → slice_get b.code place ≡ Some i
    → step p (machine_in bodies k place frames now) ≡ proceed p (machine_in bodies k place frames now) (act p b.name i now)
step-at p bodies k place frames now b i e f = rw (e, f) refl

pub seen-none : {A B : Type 0} (f : A → B) (xs : List A) (k : ℕ) (o : Option A) → o ≡ slice_get xs k → o ≡ None → slice_get (map f xs) k ≡ None
seen-none f xs k o e g = slice_get-map f xs k ∙ ap (option_map f) (sym e ∙ g)

pub seen-some : {A B : Type 0} (f : A → B) (xs : List A) (k : ℕ) (o : Option A) (x : A) → o ≡ slice_get xs k → o ≡ Some x → slice_get (map f xs) k ≡ Some (f x)
seen-some f xs k o x e g = slice_get-map f xs k ∙ ap (option_map f) (sym e ∙ g)
