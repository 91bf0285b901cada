-- The lowered program's runs are those of the program.
use Rattle.std.proofs.Common.{◌≡◌, ℕ, zero, suc, ◌+◌, ◌-◌, ◌≤◌, Bool, true, false, List, [], ◌∷◌, ◌++◌, length, Option, Some, None, refl, ap, sym, ◌∙◌, subst, arith, ℤ, pos, append-nil, inl, inr}
use Rattle.std.specs.Prelude.{◌⊎◌, slice_get, replicate, map, if◌then◌else◌}
use Rattle.dc_core.specs.Event.{Event, End}
use Rattle.dc_core.specs.Event as end
use Rattle.dc_core.specs.World.{World}
use Rattle.dc_core.specs.Program.{Program, Function, Expr}
use Rattle.dc_core.specs.Value.{Clause}
use Rattle.dc_core.specs.Contract.{WriteSet}
use Rattle.dc_core.specs.Sound.{IsSound}
use Rattle.dc_core.specs.Outcome.{Outcome, IsSame, Agrees, IsExact}
use Rattle.dc_core.specs.Run.{State, Out, Normal, Returned, Ended, Cut, Note, Did, noted, contract_mode, call, ensured, tested, Entered, Enters, Stops, entered, start_state, contract_from, contract_run, seen, seen_out}
use Rattle.dc_core.proofs.Tracked.{exact_runs}
use Rattle.dc_goto.specs.Program.{Instr, Pop, Return, GotoProgram}
use Rattle.dc_writeset.specs.Sets.{no_sets}
use Rattle.dc_goto.specs.Values.{joined}
use Rattle.dc_goto.specs.Acts.{defined, returned}
use Rattle.dc_goto.specs.Machine.{Registers, Now, Then, Next, Machine, Run, Going, Stopped, noted as noted_run, go_on, left_body, body_of, proceed, steps, start, start_at, first_registers, first_world, with_result, goto_run, seen_run}
use Rattle.dc_goto.proofs.Notes.{fails, fails-append, fails-did}
use Rattle.dc_goto.proofs.Line.{HasAt, has_front, has_back, line, before, then_next, before-nil, at}
use Rattle.dc_goto.proofs.Steps.{noted-nil, one, steps_join, steps_stay, run_goes_on}
use Rattle.dc_goto.proofs.Registers.{get-here, set-here, length-map}
use Rattle.dc_instrument.specs.Lowering.{checks_code, clauses_of, start_code, start_body, start_regs, function_body, result_register, result_value, goto_of}
use Rattle.dc_instrument.proofs.Exact.Sets.{plain_sets}
use Rattle.dc_instrument.proofs.Exact.Values.{Fits}
use Rattle.dc_instrument.proofs.Exact.Parameters.{AllInts}
use Rattle.dc_instrument.proofs.Exact.Follow.{ResultFits}
use Rattle.dc_instrument.proofs.Exact.Call.{Calls, call_follows}
use Rattle.dc_instrument.proofs.Exact.Entry.{clause_fits, checks_line, ResultHeld}
use Rattle.dc_instrument.proofs.Exact.Start.{start_name, in_start, comes_join, spare, EntryFollows, ComesToCall, entry_follows, call_place, checks_group, has_call}

-- The machine's first state ---------------------------------------------------------------------------------------------

first_now : Program → List ℕ → Now
first_now p choices = record { regs = replicate (start_regs p.function) (Some (pos 0)); sets = no_sets; seen = []; world = first_world (goto_of p) choices }

abbrev first_machine : Program → List ℕ → Machine
first_machine p choices = in_start p.function 0 (record { regs = replicate (start_regs p.function) (Some (pos 0)); sets = no_sets; seen = []; world = first_world (goto_of p) choices })

started : (p : Program) (choices : List ℕ) → IsSound p → start (goto_of p) choices ≡ Going [] (first_machine p choices)
started p choices sound =
    let n : start_regs p.function - 0 ≡ start_regs p.function = omega arith in
    ap (λ b. start_at (goto_of p) choices (if b then Some (function_body p.function) else body_of (start_body p.function ∷ []) start_name)) sound.name
    ∙ ap (λ k. Going [] (in_start p.function 0 (record { regs = replicate k (Some (pos 0)); sets = no_sets; seen = []; world = first_world (goto_of p) choices }))) n

run_from : (p : Program) (choices : List ℕ) (m : ℕ) → IsSound p → goto_run (goto_of p) m choices ≡ seen_run choices (steps (goto_of p) m (first_machine p choices))
run_from p choices m sound =
    ap (λ r. seen_run choices (go_on r (steps (goto_of p) m))) (started p choices sound)
    ∙ ap (seen_run choices) (noted-nil (steps (goto_of p) m (first_machine p choices)))

-- Behind the call -------------------------------------------------------------------------------------------------------

-- the registers behind the call: the arguments, and the result where there is one
result_tail : Bool → Option ℤ → Registers
result_tail true None = []
result_tail true (Some v) = Some v ∷ []
result_tail false result = []

result_registers : (b : Bool) (params : ℕ) (arguments : List ℤ) (result : Option ℤ) → length arguments ≡ params → ResultFits b result
    → with_result (if b then Some params else None) result (map Some arguments ++ replicate (if b then 1 else 0) (Some (pos 0))) ≡ map Some arguments ++ result_tail b result
unfolding result_tail
result_registers true params arguments None e fits = absurd fits
result_registers true params arguments (Some v) e fits =
    let m = length-map Some arguments in
    set-here (map Some arguments) (Some (pos 0)) (Some v) [] params (m ∙ e)
result_registers false params arguments result e fits = refl

result_held : (b : Bool) (result : Option ℤ) → ResultFits b result → b ≡ true → ResultHeld result (result_tail b result)
unfolding result_tail
result_held true None fits e = absurd fits
result_held true (Some v) fits e = record { number = v; known = refl; int = fits; register = refl }
result_held false result fits e = absurd cc

-- the start's last instruction gives the result
returned_is : (b : Bool) (params : ℕ) (arguments : List ℤ) (result : Option ℤ) (s : Now) → length arguments ≡ params → ResultFits b result
    → s.regs ≡ map Some arguments ++ result_tail b result
    → returned start_name s (if b then Some (Rattle.dc_core.specs.Term.Register params) else None) ≡ Rattle.dc_goto.specs.Machine.Leaves result s
unfolding result_tail
returned_is true params arguments None s e fits er = absurd fits
returned_is true params arguments (Some v) s e fits er =
    let m = length-map Some arguments in
    ap (λ o. defined start_name (joined o) s (λ x. Rattle.dc_goto.specs.Machine.Leaves (Some x) s))
    (ap (λ l. slice_get l params) er ∙ get-here (map Some arguments) (Some v) [] params (m ∙ e))
returned_is false params arguments None s e fits er = refl
returned_is false params arguments (Some v) s e fits er = absurd fits

-- the run ends with a return
pub record ReturnsAt (p : Program) (m : Machine) (names : List (List ℕ)) (result : Option ℤ) (w : World) : Type 0 where
  pub count : ℕ
  pub notes : List Note
  pub world : World
  pub by : steps (goto_of p) count m ≡ Stopped notes (end.Returned result) world
  pub same : fails notes ≡ names
  pub choices_left : world.choices ≡ w.choices
  pub memory : world.memory ≡ w.memory

-- the tests of the ensures, and the end
tests_follow : (p : Program) (place : ℕ) (arguments : List ℤ) (result : Option ℤ) (set : WriteSet) (w : World)
    → IsSound p → AllInts arguments → length arguments ≡ p.function.params → ResultFits p.function.gives_int result → w.locals ≡ []
    → HasAt (start_code p.function) place (checks_group p.function ++ Pop ∷ Return (result_value p.function) ∷ [])
    → ReturnsAt p (in_start p.function place (record { regs = map Some arguments ++ result_tail p.function.gives_int result; sets = plain_sets (set ∷ []); seen = []; world = w }))
    (fails (tested p.function.name 1 (Clause arguments result) w.memory p.function.contract.ensures_)) result w
tests_follow p place arguments result set w sound ints count fits alone has =
    record {
      count = (length checks + 1) + 1;
      notes = (notes ++ []) ++ map Did (map end.Kill w.locals);
      world = record w { memory = Rattle.dc_core.specs.Objects.kill_all w.locals w.memory; locals = [] };
      by =
          steps_join g (length checks + 1) 1 m m2 (notes ++ []) _
          (steps_join g (length checks) 1 m m1 notes _
          (Rattle.dc_goto.proofs.Line.line_next g start_name (start_code f) [] checks place s s notes (has_front (start_code f) place checks (Pop ∷ Return (result_value f) ∷ []) has) tested_line)
          (one g m1 Pop (Going [] m2) has_end.0 refl))
          (one g m2 (Return (result_value f)) (left_body s2 result []) has_end.1.0 (ap (proceed g m2) (returned_is f.gives_int f.params arguments result s2 count fits refl)));
      same =
          fails-append (notes ++ []) (map Did (map end.Kill w.locals))
          ∙ ap (λ x. fails (notes ++ []) ++ x) (fails-did (map end.Kill w.locals))
          ∙ append-nil (fails (notes ++ []))
          ∙ ap fails (append-nil notes);
      choices_left = refl;
      memory = ap (λ l. Rattle.dc_core.specs.Objects.kill_all l w.memory) alone;
    }
  where
    f : Function
    f = p.function

    g : GotoProgram
    g = goto_of p

    checks : List Instr
    checks = checks_group f

    regs : Registers
    regs = map Some arguments ++ result_tail f.gives_int result

    s : Now
    s = record { regs = regs; sets = plain_sets (set ∷ []); seen = []; world = w }

    s2 : Now
    s2 = record { regs = regs; sets = no_sets; seen = []; world = w }

    m : Machine
    m = in_start f place s

    m1 : Machine
    m1 = in_start f (place + length checks) s

    m2 : Machine
    m2 = in_start f (suc (place + length checks)) s2

    notes : List Note
    notes = tested f.name 1 (Clause arguments result) w.memory f.contract.ensures_

    has_end : HasAt (start_code f) (place + length checks) (Pop ∷ Return (result_value f) ∷ [])
    has_end = has_back (start_code f) place checks (Pop ∷ Return (result_value f) ∷ []) has

    fitting : Fits p f.gives_int (Clause arguments result) (clauses_of f) regs w.memory
    fitting = clause_fits p f.gives_int arguments result (result_tail f.gives_int result) regs w.memory refl ints count (result_held f.gives_int result fits)

    group : (es : List Expr) → line g start_name (checks_code f.name (clauses_of f) 1 es) s ≡ Next (tested f.name 1 (Clause arguments result) w.memory es) s
        → line g start_name (Rattle.dc_instrument.specs.Lowering.group_code (checks_code f.name (clauses_of f) 1 es)) s ≡ Next (tested f.name 1 (Clause arguments result) w.memory es) s
    group [] h = h
    group (e ∷ es) h = before-nil (line g start_name (checks_code f.name (clauses_of f) 1 (e ∷ es)) s) ∙ h

    tested_line : line g start_name checks s ≡ Next notes s
    tested_line = group f.contract.ensures_ (checks_line p f.gives_int g start_name f.name (Clause arguments result) (clauses_of f) 1 f.contract.ensures_ s sound.few fitting sound.ensures_)

-- No object is left to the start -------------------------------------------------------------------------------------------

abbrev KeepsLocals : List ℕ → Out Note → Type 0
KeepsLocals outer (Normal notes t) = Unit {0}
KeepsLocals outer (Returned notes result t) = t.world.locals ≡ outer
KeepsLocals outer (Ended notes e w) = Unit {0}
KeepsLocals outer (Cut notes w) = Unit {0}

call_locals : (f : Function) (set : WriteSet) (arguments : List ℤ) (st : State) → KeepsLocals st.world.locals (call contract_mode f set arguments st)
call_locals f set arguments st = by (Rattle.dc_core.specs.Run.finished f (Rattle.dc_core.specs.Run.with_parameters contract_mode arguments [] (Rattle.dc_core.specs.Run.without_locals st) (λ places t. Rattle.dc_core.specs.Run.run contract_mode f.name set places f.body t)))
  where
    by : (o : Out Note) → KeepsLocals st.world.locals (noted (Did (end.Call 1) ∷ []) (Rattle.dc_core.specs.Run.leaving contract_mode st.world.locals o))
    by (Normal notes t) = tt
    by (Returned notes result t) = refl
    by (Ended notes e w) = tt
    by (Cut notes w) = tt

abbrev EntersAlone : List ℕ → Entered → Type 0
EntersAlone outer (Enters events arguments set t) = t.world.locals ≡ outer
EntersAlone outer (Stops events e w) = Unit {0}

entered_locals : (p : Program) (st : State) → EntersAlone st.world.locals (entered p st)
entered_locals p st = by (Rattle.dc_core.specs.Entry.entry_memory p st.world.choices)
  where
    by_required : (arguments : List ℤ) (t : State) (events : List Event) (b : Bool) → t.world.locals ≡ st.world.locals → EntersAlone st.world.locals (Rattle.dc_core.specs.Run.required p.function arguments t events b)
    by_required arguments t events true e = e
    by_required arguments t events false e = tt

    by_arguments : (t : State) (events : List Event) (d : Rattle.dc_core.specs.Choices.Drawn (List ℤ)) → t.world.locals ≡ st.world.locals → EntersAlone st.world.locals (Rattle.dc_core.specs.Run.with_arguments p.function t events d)
    by_arguments t events (Rattle.dc_core.specs.Choices.Drew arguments rest more) e = by_required arguments (Rattle.dc_core.specs.Run.with_choices rest t) (events ++ more) _ e
    by_arguments t events (Rattle.dc_core.specs.Choices.Dry more) e = tt

    by : (d : Rattle.dc_core.specs.Choices.Drawn Rattle.dc_memory.specs.Objects.Memory) → EntersAlone st.world.locals (Rattle.dc_core.specs.Run.with_entry p.function st d)
    by (Rattle.dc_core.specs.Choices.Drew memory rest events) = by_arguments (Rattle.dc_core.specs.Run.with_choices rest (Rattle.dc_core.specs.Run.with_memory memory st)) events _ refl
    by (Rattle.dc_core.specs.Choices.Dry events) = tt

-- The whole run --------------------------------------------------------------------------------------------------------------

-- the machine's run ended as the source's
pub record EndsAlike (p : Program) (choices : List ℕ) (o : Out Note) : Type 0 where
  pub count : ℕ
  pub notes : List Note
  pub how : End
  pub world : World
  pub by : steps (goto_of p) count (first_machine p choices) ≡ Stopped notes how world
  pub same : IsSame (seen_out choices o) (seen choices notes how world)

-- the source's run was cut after n steps, and the machine goes on after at least as many
pub record GoesAlike (p : Program) (choices : List ℕ) (n : ℕ) (o : Out Note) : Type 0 where
  pub count : ℕ
  pub notes : List Note
  pub state : Machine
  pub by : steps (goto_of p) count (first_machine p choices) ≡ Going notes state
  pub cut : (seen_out choices o).end ≡ end.Cut
  pub same : (seen_out choices o).names ≡ fails notes
  pub enough : n ≤ count

abbrev Alike : Program → List ℕ → ℕ → Out Note → Type 0
Alike p choices n o = EndsAlike p choices o ⊎ GoesAlike p choices n o

-- from the call on
from_call : (p : Program) (choices : List ℕ) (events : List Event) (arguments : List ℤ) (set : WriteSet) (t : State)
    → IsSound p → t.world.locals ≡ [] → ComesToCall (goto_of p) p.function (first_machine p choices) (call_place p.function) arguments set t t.left
    → Alike p choices t.left (noted (map Did events) (ensured p.function arguments (call contract_mode p.function set arguments t)))
from_call p choices events arguments set t sound alone c =
    by (call contract_mode f set arguments t) (call_locals f set arguments t)
    (call_follows p (in_start f (call_place f) s) set arguments (spare f) t sound refl refl refl (has_call f).0 c.count refl)
  where
    f : Function
    f = p.function

    g : GotoProgram
    g = goto_of p

    s : Now
    s = record { regs = map Some arguments ++ spare f; sets = plain_sets (set ∷ []); seen = []; world = t.world }

    names_of : (ns : List Note) → fails (map Did events ++ ns) ≡ fails ns
    names_of ns = fails-append (map Did events) ns ∙ ap (λ x. x ++ fails ns) (fails-did events)

    by : (o : Out Note) → KeepsLocals t.world.locals o → Calls g f.gives_int (in_start f (call_place f) s) (result_register f) t.left o
        → Alike p choices t.left (noted (map Did events) (ensured f arguments o))
    by (Normal notes u) kept h = absurd h
    by (Returned notes result u) kept h =
        let back : Now = record s { regs = map Some arguments ++ result_tail f.gives_int result; world = u.world } in
        let regs_are = result_registers f.gives_int f.params arguments result c.count h.1 in
        let call_it = comes_join g (first_machine p choices) (in_start f (call_place f) s) (in_start f (suc (call_place f)) (record s { regs = with_result (result_register f) result s.regs; world = u.world })) [] (fails notes) c.comes h.0 in
        let tests = tests_follow p (suc (call_place f)) arguments result set u.world sound c.ints c.count h.1 (kept ∙ alone) (has_call f).1 in
        let all = tested f.name 1 (Clause arguments result) u.world.memory f.contract.ensures_ in
        inl (record {
          count = call_it.count + tests.count;
          notes = call_it.notes ++ tests.notes;
          how = end.Returned result;
          world = tests.world;
          by =
              steps_join g call_it.count tests.count (first_machine p choices) (in_start f (suc (call_place f)) back) call_it.notes (Stopped tests.notes (end.Returned result) tests.world)
              (call_it.by ∙ ap (λ l. Going call_it.notes (in_start f (suc (call_place f)) (record s { regs = l; world = u.world }))) regs_are) tests.by;
          same =
              record {
                names =
                    names_of (notes ++ all)
                    ∙ fails-append notes all
                    ∙ ap (λ x. x ++ fails all) (sym call_it.same)
                    ∙ ap (λ x. fails call_it.notes ++ x) (sym tests.same)
                    ∙ sym (fails-append call_it.notes tests.notes);
                end = refl;
                used = ap (λ cs. length choices - length cs) (sym tests.choices_left);
                memory = λ r e. sym tests.memory;
              };
        })
    by (Ended notes e w) kept h =
        inl (record {
          count = c.comes.count + h.count;
          notes = c.comes.notes ++ h.notes;
          how = e;
          world = w;
          by = steps_join g c.comes.count h.count (first_machine p choices) (in_start f (call_place f) s) c.comes.notes (Stopped h.notes e w) c.comes.by h.by;
          same =
              record {
                names = names_of notes ∙ sym (fails-append c.comes.notes h.notes ∙ ap (λ x. x ++ fails h.notes) c.comes.same ∙ h.same);
                end = refl;
                used = refl;
                memory = λ r x. refl;
              };
        })
    by (Cut notes w) kept h =
        let enough : t.left ≤ h.count = h.enough in
        inr (record {
          count = c.comes.count + h.count;
          notes = c.comes.notes ++ h.notes;
          state = h.state;
          by = steps_join g c.comes.count h.count (first_machine p choices) (in_start f (call_place f) s) c.comes.notes (Going h.notes h.state) c.comes.by h.by;
          cut = refl;
          same = names_of notes ∙ sym (fails-append c.comes.notes h.notes ∙ ap (λ x. x ++ fails h.notes) c.comes.same ∙ h.same);
          enough = omega arith;
        })

-- from the entry on
from_entry : (p : Program) (choices : List ℕ) (k : ℕ) → IsSound p → Alike p choices k (contract_from p (entered p (start_state k choices)))
from_entry p choices k sound =
    by (entered p (start_state k choices)) (entered_locals p (start_state k choices))
    (entry_follows p (start_state k choices) (first_world (goto_of p) choices) sound refl)
  where
    by : (e : Entered) → EntersAlone [] e → EntryFollows (goto_of p) p.function (first_machine p choices) (call_place p.function) k e → Alike p choices k (contract_from p e)
    by (Enters events arguments set t) alone h =
        let whole = from_call p choices events arguments set t sound alone (record { comes = h.comes; ints = h.ints; count = h.count; left = refl }) in
        subst (λ n. Alike p choices n (contract_from p (Enters events arguments set t))) h.left whole
    by (Stops events e w) alone h =
        inl (record {
          count = h.count;
          notes = h.notes;
          how = e;
          world = h.world;
          by = h.by;
          same =
              record {
                names = fails-did events ∙ sym h.same;
                end = refl;
                used = ap (λ cs. length choices - length cs) (sym h.choices_left);
                memory = λ result x. absurd (h.other result x);
              };
        })

agrees_same : (e : End) (a b : Outcome) → a.end ≡ e → IsSame a b → Agrees e a b
agrees_same end.Cut a b h s = (s.names, sym s.end ∙ h)
agrees_same (end.Returned result) a b h s = s
agrees_same end.Blocked a b h s = s
agrees_same (end.Undefined function) a b h s = s
agrees_same (end.NoBody function) a b h s = s
agrees_same end.ObjectLimit a b h s = s
agrees_same end.DepthLimit a b h s = s
agrees_same end.ChoicesEnded a b h s = s

follows : (p : Program) (n : ℕ) (choices : List ℕ) → IsSound p → (m : ℕ) × Agrees (contract_run p n choices).end (contract_run p n choices) (goto_run (goto_of p) m choices)
follows p zero choices sound = (0, subst (λ b. Agrees end.Cut (contract_run p 0 choices) b) (sym (run_from p choices 0 sound)) (refl, refl))
follows p (suc k) choices sound = by (from_entry p choices k sound)
  where
    source : Outcome
    source = contract_run p (suc k) choices

    by : Alike p choices k (contract_from p (entered p (start_state k choices))) → (m : ℕ) × Agrees source.end source (goto_run (goto_of p) m choices)
    by (inl h) =
        (h.count, subst (λ b. Agrees source.end source b) (sym (run_from p choices h.count sound ∙ ap (seen_run choices) h.by)) (agrees_same source.end source _ refl h.same))
    by (inr h) =
        (h.count, subst (λ b. Agrees source.end source b) (sym (run_from p choices h.count sound ∙ ap (seen_run choices) h.by)) (subst (λ e. Agrees e source (seen_run choices (Going h.notes h.state))) (sym h.cut) (h.same, refl)))

far : (p : Program) (m : ℕ) (choices : List ℕ) → IsSound p → (n further : ℕ) × (m ≤ further) × Agrees (contract_run p n choices).end (contract_run p n choices) (goto_run (goto_of p) further choices)
far p m choices sound = by (from_entry p choices m sound)
  where
    source : Outcome
    source = contract_run p (suc m) choices

    by : Alike p choices m (contract_from p (entered p (start_state m choices))) → (n further : ℕ) × (m ≤ further) × Agrees (contract_run p n choices).end (contract_run p n choices) (goto_run (goto_of p) further choices)
    by (inl h) =
        let stays = steps_stay (goto_of p) h.count m (first_machine p choices) h.notes h.how h.world h.by in (
          suc m,
          h.count + m,
          omega arith,
          subst (λ b. Agrees source.end source b) (sym (run_from p choices (h.count + m) sound ∙ ap (seen_run choices) stays)) (agrees_same source.end source _ refl h.same),
        )
    by (inr h) = (
      suc m,
      h.count,
      h.enough,
      subst (λ b. Agrees source.end source b) (sym (run_from p choices h.count sound ∙ ap (seen_run choices) h.by)) (subst (λ e. Agrees e source (seen_run choices (Going h.notes h.state))) (sym h.cut) (h.same, refl)),
    )

-- the lowered program says what the program's contract run says
pub lowered_exact : (p : Program) → IsSound p → IsExact (contract_run p) (goto_run (goto_of p))
lowered_exact p sound =
    exact_runs (contract_run p) (goto_run (goto_of p)) (run_goes_on (goto_of p))
    (record { follows = λ n choices. follows p n choices sound; far = λ m choices. far p m choices sound })
