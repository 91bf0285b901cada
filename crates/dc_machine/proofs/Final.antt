-- What a whole run's notes come to.
use Rattle.std.proofs.Common.{◌≡◌, ℕ, ◌-◌, List, [], ◌++◌, length, map, Some, None, refl, ap, sym, ◌∙◌, subst, arith}
use Rattle.std.specs.Prelude.{Result, Ok, Err, IfOk, IfSome, OnErr, flat_map, codes, slice_get}
use Rattle.dc_core.specs.Event as plain
use Rattle.dc_core.specs.Run.{seen, event_of, name_of}
use Rattle.dc_core.specs.World.{World}
use Rattle.dc_goto.specs.Program.{Body, GotoProgram}
use Rattle.dc_goto.specs.Machine.{Machine, Run, Going, Stopped, go_on, steps, start, seen_run, goto_run, body_of, first_world, first_registers}
use Rattle.dc_writeset.specs.Sets.{no_sets}
use Rattle.dc_text.specs.Counted.{all_counted, no_counts, raised}
use Rattle.dc_choice.specs.Chosen.{Used}
use Rattle.dc_choice.specs.Heard.{hears_all}
use Rattle.dc_world.specs.Told.{Supply, IsTaken, Hearing, spoken}
use Rattle.dc_world.specs.Report.{end_view}
use Rattle.dc_world.specs.Reported.{IsCutShort, IsReport, dry_at}
use Rattle.dc_world.proofs.Reported.{told-failed, told-counts, told-records, told-parts, events-append, none_left, run-whole}
use Rattle.dc_world.specs.declared.report.End.{End}
use Rattle.dc_machine.specs.View.{name_at, code_at}
use Rattle.dc_machine.proofs.Longer.{run_longer}
use Rattle.dc_machine.specs.Step.{HasRun, IsRun, IsCutOff, running, notes_run}

-- a run from the start
abbrev pub whole : GotoProgram → ℕ → List ℕ → Run
whole p n choices = go_on (start p choices) (steps p n)

-- the report of a run
pub record Reported (p : GotoProgram) (n : ℕ) (used : List ℕ) (end : plain.End) (s s' : Supply) (h h' : Hearing) : Type 0 where
  pub names : h'.failed ≡ (goto_run p n used).names
  pub ends : end ≡ (goto_run p n used).end
  pub taken : length used ≡ (goto_run p n used).used
  pub counts : h'.counts ≡ all_counted (map spoken (goto_run p n used).events) no_counts
  pub left : Used s.left s'.left used
  pub given : s'.given ≡ raised s.given (length used)
  pub dry : s'.dry ≡ raised s.dry (dry_at end)
  pub ended : end ≡ plain.ChoicesEnded → IfSome s'.left (λ rest. rest ≡ [])
  pub heard : h'.records ≡ map (hears_all (map spoken (goto_run p n used).events)) h.records
  pub parts : h'.parts ≡ h.parts

pub reported : (p : GotoProgram) (n : ℕ) (end : plain.End) (s s' : Supply) (h h' : Hearing) → s.used ≡ [] → h.failed ≡ [] → h.counts ≡ no_counts
    → HasRun (whole p n) end s s' h h' → Reported p n s'.used end s s' h h'
reported p n end s s' h h' empty none zeros a =
    let same : s'.used ≡ a.numbers = a.taken.used ∙ ap (λ l. l ++ a.numbers) empty in
    let outcome : goto_run p n s'.used ≡ seen a.numbers a.notes end a.world = ap (goto_run p n) same ∙ a.ends in
    let names : h'.failed ≡ flat_map name_of a.notes = ap (λ k. k.failed) a.heard ∙ told-failed a.notes h ∙ ap (λ l. l ++ flat_map name_of a.notes) none in
    let counts : h'.counts ≡ all_counted (map spoken (flat_map event_of a.notes)) no_counts = ap (λ k. k.counts) a.heard ∙ told-counts a.notes h ∙ ap (all_counted (map spoken (flat_map event_of a.notes))) zeros in
    let records : h'.records ≡ map (hears_all (map spoken (flat_map event_of a.notes))) h.records = ap (λ k. k.records) a.heard ∙ told-records a.notes h in
    record {
      names = names ∙ sym (ap (λ o. o.names) outcome);
      ends = sym (ap (λ o. o.end) outcome);
      taken = let l : length a.numbers ≡ length a.numbers - length a.world.choices = rw a.none_left (omega arith) in ap length same ∙ l ∙ sym (ap (λ o. o.used) outcome);
      counts = counts ∙ ap (λ es. all_counted (map spoken es) no_counts) (sym (ap (λ o. o.events) outcome));
      left = subst (λ u. Used s.left s'.left u) (sym same) a.taken.left;
      given = a.taken.given ∙ ap (λ u. raised s.given (length u)) (sym same);
      dry = a.taken.dry;
      ended = none_left end a.numbers s s' a.taken;
      heard = records ∙ ap (λ es. map (hears_all (map spoken es)) h.records) (sym (ap (λ o. o.events) outcome));
      parts = ap (λ k. k.parts) a.heard ∙ told-parts a.notes h;
    }

seen-events : (choices : List ℕ) (r : Run) → (seen_run choices r).events ≡ flat_map event_of (notes_run r)
seen-events choices (Going notes m) = refl
seen-events choices (Stopped notes e w) = refl

pub cut_short : (p : GotoProgram) (n : ℕ) (s s' : Supply) (h h' : Hearing) → IsCutOff running (whole p n) s s' h h' → IsCutShort (goto_run p n) s.left s'.left h.records h'.records
cut_short p n s s' h h' a = record {
  numbers = a.numbers;
  events = flat_map event_of a.notes;
  front = λ rest.
      let f = a.front rest in
      (flat_map event_of f.0, seen-events (a.numbers ++ rest) (whole p n (a.numbers ++ rest)) ∙ ap (flat_map event_of) f.1 ∙ events-append a.notes f.0);
  taken = a.taken.left;
  heard = ap (λ k. k.records) a.heard ∙ told-records a.notes h;
}

pub parts_kept : (p : GotoProgram) (n : ℕ) (s s' : Supply) (h h' : Hearing) → IsCutOff running (whole p n) s s' h h' → h'.parts ≡ h.parts
parts_kept p n s s' h h' a = ap (λ k. k.parts) a.heard ∙ told-parts a.notes h

-- the run of a program that doesn't begin
pub run_named : {E : Type 0} (run : List ℕ → Run) (end : End) (w : World) (r : Result End E) (s : Supply) (h : Hearing)
    → IsTaken [] 0 s s → IfOk r (λ e. e ≡ end) → dry_at (end_view end) ≡ 0 → run [] ≡ Stopped [] (end_view end) w → w.choices ≡ [] → IsRun run r s s h h
run_named run end w (Ok e) s h nothing is dry stops none =
    let same : e ≡ end = is in
    rw same (record { numbers = []; notes = []; world = w; ends = ap (seen_run []) stops; none_left = none; taken = subst (λ k. IsTaken [] k s s) (sym dry) nothing; heard = refl })
run_named run end w (Err f) s h nothing is dry stops none = record { numbers = []; notes = []; front = λ rest. (notes_run (run rest), refl); taken = nothing; heard = refl }

pub run_same : {E : Type 0} (run run' : List ℕ → Run) (r : Result End E) (s s' : Supply) (h h' : Hearing) → ((choices : List ℕ) → run' choices ≡ run choices) → IsRun run r s s' h h' → IsRun run' r s s' h h'
run_same run run' (Ok e) s s' h h' f a = record { numbers = a.numbers; notes = a.notes; world = a.world; ends = ap (seen_run a.numbers) (f a.numbers) ∙ a.ends; none_left = a.none_left; taken = a.taken; heard = a.heard }
run_same run run' (Err e) s s' h h' f a = record {
  numbers = a.numbers;
  notes = a.notes;
  front = λ rest. let g = a.front rest in (g.0, ap notes_run (f (a.numbers ++ rest)) ∙ g.1);
  taken = a.taken;
  heard = a.heard;
}

pub report_of : (p : GotoProgram) (n : ℕ) (used : List ℕ) (end : End) (s s' : Supply) (h h' : Hearing) → used ≡ s'.used → s.used ≡ [] → h.failed ≡ [] → h.counts ≡ no_counts
    → HasRun (whole p n) (end_view end) s s' h h' → IsReport (goto_run p n) (record { failed = h'.failed; end = end; used = used; counts = h'.counts }) s.left s'.left s.given s'.given s.dry s'.dry h.records h'.records
report_of p n used end s s' h h' f empty none zeros a =
    let r = reported p n (end_view end) s s' h h' empty none zeros a in
    subst (λ u. IsReport (goto_run p n) (record { failed = h'.failed; end = end; used = u; counts = h'.counts }) s.left s'.left s.given s'.given s.dry s'.dry h.records h'.records) (sym f)
    (record {
      failed = r.names;
      ends = r.ends;
      taken = r.taken;
      counts = r.counts;
      whole = run-whole (goto_run p n) (end_view end) s'.used s.left s'.left r.left r.ended (λ rest m. run_longer p n s'.used rest (λ e. m (r.ends ∙ e)));
      used = r.left;
      given = r.given;
      dry = r.dry;
      ended = r.ended;
      heard = r.heard;
    })

-- the parts are those that they were after a whole run too
pub parts_after : (p : GotoProgram) (n : ℕ) (end : plain.End) (s s' : Supply) (h h' : Hearing) → HasRun (whole p n) end s s' h h' → h'.parts ≡ h.parts
parts_after p n end s s' h h' a = ap (λ k. k.parts) a.heard ∙ told-parts a.notes h

pub ok-map : {T E : Type 0} {P Q : T → Type 0} (r : Result T E) → ((v : T) → P v → Q v) → IfOk r P → IfOk r Q
ok-map (Ok v) f p = f v p
ok-map (Err e) f p = tt

pub on_err : {T E : Type 0} (P : Type 0) (r : Result T E) → P → OnErr r P
on_err P (Ok v) p = tt
on_err P (Err e) p = p

-- the start of a program
pub start-none : (p : GotoProgram) (n : ℕ) → body_of p.bodies (codes ".start") ≡ None → whole p n [] ≡ Stopped [] (plain.NoBody (codes ".start")) (first_world p [])
start-none p n e = rw e refl

pub start-some : (p : GotoProgram) (choices : List ℕ) (k : ℕ) (b : Body) (mc : Machine) → body_of p.bodies (codes ".start") ≡ Some b → slice_get p.bodies k ≡ Some b → b.name ≡ codes ".start"
    → mc ≡ record { name = name_at (slice_get p.bodies k); code = code_at (slice_get p.bodies k); place = 0; frames = []; now = record { regs = first_registers b []; sets = no_sets; seen = []; world = first_world p choices } }
    → start p choices ≡ Going [] mc
start-some p choices k b mc e f g h = rw (e, h, f, g) refl

pub report_as : (p q : GotoProgram) (n : ℕ) (used : List ℕ) (end : End) (s s' : Supply) (h h' : Hearing) → p ≡ q → used ≡ s'.used → s.used ≡ [] → h.failed ≡ [] → h.counts ≡ no_counts
    → HasRun (whole p n) (end_view end) s s' h h' → IsReport (goto_run q n) (record { failed = h'.failed; end = end; used = used; counts = h'.counts }) s.left s'.left s.given s'.given s.dry s'.dry h.records h'.records
report_as p q n used end s s' h h' e f empty none zeros a =
    subst (λ x. IsReport (goto_run x n) (record { failed = h'.failed; end = end; used = used; counts = h'.counts }) s.left s'.left s.given s'.given s.dry s'.dry h.records h'.records) e
    (report_of p n used end s s' h h' f empty none zeros a)

pub cut_short_as : (p q : GotoProgram) (n : ℕ) (s s' : Supply) (h h' : Hearing) → p ≡ q → IsCutOff running (whole p n) s s' h h' → IsCutShort (goto_run q n) s.left s'.left h.records h'.records
cut_short_as p q n s s' h h' e a = subst (λ x. IsCutShort (goto_run x n) s.left s'.left h.records h'.records) e (cut_short p n s s' h h' a)
