-- The start does what the entry does, up to its call.
use Rattle.std.proofs.Common.{◌≡◌, ℕ, ◌+◌, Bool, true, false, List, [], ◌∷◌, ◌++◌, length, Option, Some, None, refl, ap, sym, ◌∙◌, subst, ℤ, pos, append-nil}
use Rattle.std.specs.Prelude.{replicate, map, codes, if◌then◌else◌}
use Rattle.dc_core.specs.Event.{Event, End}
use Rattle.dc_core.specs.Event as end
use Rattle.dc_core.specs.Choices.{Drawn, Drew, Dry, after, bind}
use Rattle.dc_memory.specs.declared.object.ObjKind.TheVariants.{Static}
use Rattle.dc_memory.specs.Objects.{Memory, holding}
use Rattle.dc_core.specs.Objects.{function_object, rewritten}
use Rattle.dc_core.specs.WellFormed.{AreStatics}
use Rattle.dc_core.specs.World.{World}
use Rattle.dc_core.specs.Entry.{static_objects, with_outside, draw_arguments, static_sizes}
use Rattle.dc_core.specs.Program.{Program, Function}
use Rattle.dc_core.specs.Value.{Clause}
use Rattle.dc_core.specs.Contract.{all_hold, WriteSet, new_set, set_of}
use Rattle.dc_core.specs.Sound.{IsSound}
use Rattle.dc_core.specs.Run.{State, Note, Did, Entered, Enters, Stops, required, with_arguments, with_entry, entered, with_choices, with_memory}
use Rattle.dc_writeset.specs.Sets.{no_sets}
use Rattle.dc_goto.specs.Program.{Instr, Statics, OutsideObjects, Push, Pop, Return, GotoProgram}
use Rattle.dc_goto.specs.Machine.{Registers, Now, Next, Machine, Stopped, steps, first_memory}
use Rattle.dc_goto.specs.Acts.{drawn, required as required_then, with_memory as with_now_memory, with_statics}
use Rattle.dc_goto.proofs.Notes.{fails, fails-append, fails-did}
use Rattle.dc_goto.proofs.Line.{HasAt, has_front, has_back, line, line_next, line_ends, before, then_next, before-nil, at}
use Rattle.dc_goto.proofs.Steps.{steps_join}
use Rattle.dc_instrument.specs.Lowering.{int_static, draws_code, group_code, require_code, ranges_code, checks_code, call_code, start_code, start_regs, result_value, clauses_of, goto_of}
use Rattle.dc_instrument.proofs.Exact.Sets.{AreBare, plain_sets}
use Rattle.dc_instrument.proofs.Exact.Values.{Fits}
use Rattle.dc_instrument.proofs.Exact.Parameters.{AllInts}
use Rattle.dc_instrument.proofs.Exact.Variables.{DrewStatics, drawn-statics, drawn-bare, rewritten-statics}
use Rattle.dc_instrument.proofs.Exact.Follow.{Comes}
use Rattle.dc_instrument.proofs.Exact.Entry.{clause_fits, requires_line, ranges_line, DrawsFollow, draws_follow}

abbrev pub start_name : List ℕ
start_name = codes ".start"

-- the start's state at a place
abbrev pub in_start : Function → ℕ → Now → Machine
in_start f place s = at start_name (start_code f) [] place s

-- Runs put together ---------------------------------------------------------------------------------------------------

pub comes_line : (g : GotoProgram) (f : Function) (place : ℕ) (is : List Instr) (s s' : Now) (notes : List Note)
    → HasAt (start_code f) place is → line g start_name is s ≡ Next notes s' → Comes g (in_start f place s) (fails notes) (in_start f (place + length is) s')
comes_line g f place is s s' notes has e =
    record { count = length is; notes = notes; by = line_next g start_name (start_code f) [] is place s s' notes has e; same = refl }

pub comes_join : (g : GotoProgram) (m m' m'' : Machine) (ns ns' : List (List ℕ)) → Comes g m ns m' → Comes g m' ns' m'' → Comes g m (ns ++ ns') m''
comes_join g m m' m'' ns ns' a b =
    record {
      count = a.count + b.count;
      notes = a.notes ++ b.notes;
      by = steps_join g a.count b.count m m' a.notes _ a.by b.by;
      same = fails-append a.notes b.notes ∙ ap (λ x. x ++ fails b.notes) a.same ∙ ap (λ y. ns ++ y) b.same;
    }

-- the run ends before the call, where these choices are left
pub record EndsBefore (g : GotoProgram) (m : Machine) (how : End) (choices : List ℕ) : Type 0 where
  pub count : ℕ
  pub notes : List Note
  pub world : World
  pub by : steps g count m ≡ Stopped notes how world
  pub same : fails notes ≡ []
  pub choices_left : world.choices ≡ choices
  pub other : (result : Option ℤ) → how ≡ end.Returned result → ⊥

-- the registers behind the arguments
abbrev pub spare : Function → Registers
spare f = replicate (if f.gives_int then 1 else 0) (Some (pos 0))

-- the run comes to the call
pub record ComesToCall (g : GotoProgram) (f : Function) (m : Machine) (place : ℕ) (arguments : List ℤ) (set : WriteSet) (t : State) (n : ℕ) : Type 0 where
  pub comes : Comes g m [] (in_start f place (record { regs = map Some arguments ++ spare f; sets = plain_sets (set ∷ []); seen = []; world = t.world }))
  pub ints : AllInts arguments
  pub count : length arguments ≡ f.params
  pub left : t.left ≡ n

abbrev pub EntryFollows : GotoProgram → Function → Machine → ℕ → ℕ → Entered → Type 0
EntryFollows g f m place n (Enters events arguments set t) = ComesToCall g f m place arguments set t n
EntryFollows g f m place n (Stops events how w) = EndsBefore g m how w.choices

entry_after : (g : GotoProgram) (f : Function) (m m' : Machine) (place n : ℕ) (e : Entered) → Comes g m [] m' → EntryFollows g f m' place n e → EntryFollows g f m place n e
entry_after g f m m' place n (Enters events arguments set t) a h =
    record { comes = comes_join g m m' (in_start f place (record { regs = map Some arguments ++ spare f; sets = plain_sets (set ∷ []); seen = []; world = t.world })) [] [] a h.comes; ints = h.ints; count = h.count; left = h.left }
entry_after g f m m' place n (Stops events how w) a h =
    record {
      count = a.count + h.count;
      notes = a.notes ++ h.notes;
      world = h.world;
      by = steps_join g a.count h.count m m' a.notes _ a.by h.by;
      same = fails-append a.notes h.notes ∙ ap (λ x. x ++ fails h.notes) a.same ∙ h.same;
      choices_left = h.choices_left;
      other = h.other;
    }

-- what a draw notes fails no name
told : (events : List Event) → fails ((map Did events ++ []) ++ []) ≡ []
told events = ap fails (append-nil (map Did events ++ []) ∙ append-nil (map Did events)) ∙ fails-did events

-- The stages ------------------------------------------------------------------------------------------------------------

-- the groups of the start's code
abbrev pub requires_group : Function → List Instr
requires_group f = group_code (require_code (clauses_of f) f.contract.requires_)

abbrev pub ranges_group : Function → List Instr
ranges_group f = ranges_code (clauses_of f) 1 f.contract.assigns

abbrev pub checks_group : Function → List Instr
checks_group f = group_code (checks_code f.name (clauses_of f) 1 f.contract.ensures_)

abbrev pub after_ranges : Function → List Instr
after_ranges f = call_code f ++ (checks_group f ++ Pop ∷ Return (result_value f) ∷ [])

abbrev pub after_requires : Function → List Instr
after_requires f = Push ∷ (ranges_group f ++ after_ranges f)

abbrev pub after_draws : Function → List Instr
after_draws f = requires_group f ++ after_requires f

-- the places of the groups
abbrev pub requires_place : Function → ℕ
requires_place f = 2 + length (draws_code 0 f.params)

abbrev pub push_place : Function → ℕ
push_place f = requires_place f + length (requires_group f)

abbrev pub call_place : Function → ℕ
call_place f = push_place f + length (Push ∷ ranges_group f)

pub has_start : (f : Function) → HasAt (start_code f) 0 (start_code f)
has_start f = Rattle.dc_goto.proofs.Line.has_all (start_code f)

has_requires : (f : Function) → HasAt (start_code f) (requires_place f) (after_draws f)
has_requires f = has_back (start_code f) 2 (draws_code 0 f.params) (after_draws f) (has_start f).1.1

has_push : (f : Function) → HasAt (start_code f) (push_place f) (after_requires f)
has_push f = has_back (start_code f) (requires_place f) (requires_group f) (after_requires f) (has_requires f)

pub has_call : (f : Function) → HasAt (start_code f) (call_place f) (after_ranges f)
has_call f = has_back (start_code f) (push_place f) (Push ∷ ranges_group f) (after_ranges f) (has_push f)

-- the requires, and then the set
requires_stage : (p : Program) (events : List Event) (arguments : List ℤ) (st : State) (s : Now)
    → IsSound p → AreBare st.world.memory → AllInts arguments → length arguments ≡ p.function.params
    → s ≡ record { regs = map Some arguments ++ spare p.function; sets = no_sets; seen = []; world = st.world }
    → EntryFollows (goto_of p) p.function (in_start p.function (requires_place p.function) s) (call_place p.function) st.left
    (required p.function arguments st events (all_hold (Clause arguments None) st.world.memory p.function.contract.requires_))
requires_stage p events arguments st s sound bare ints count es =
    subst (λ x. EntryFollows g f (in_start f (requires_place f) x) (call_place f) st.left (required f arguments st events (all_hold (Clause arguments None) memory f.contract.requires_))) (sym es)
    (by (all_hold (Clause arguments None) memory f.contract.requires_) refl)
  where
    f : Function
    f = p.function

    g : GotoProgram
    g = goto_of p

    memory : Memory
    memory = st.world.memory

    s0 : Now
    s0 = record { regs = map Some arguments ++ spare f; sets = no_sets; seen = []; world = st.world }

    fits : Fits p false (Clause arguments None) (clauses_of f) (map Some arguments ++ spare f) memory
    fits = clause_fits p false arguments None (spare f) (map Some arguments ++ spare f) memory refl ints count (λ e. absurd cc)

    group : (es : List Rattle.dc_core.specs.Program.Expr) → line g start_name (require_code (clauses_of f) es) s0 ≡ required_then (all_hold (Clause arguments None) memory es) s0
        → line g start_name (group_code (require_code (clauses_of f) es)) s0 ≡ required_then (all_hold (Clause arguments None) memory es) s0
    group [] h = refl
    group (e ∷ es) h = before-nil (line g start_name (require_code (clauses_of f) (e ∷ es)) s0) ∙ h

    tested : line g start_name (requires_group f) s0 ≡ required_then (all_hold (Clause arguments None) memory f.contract.requires_) s0
    tested = group f.contract.requires_ (requires_line p g start_name (Clause arguments None) (clauses_of f) f.contract.requires_ s0 sound.few fits sound.requires_)

    set : WriteSet
    set = set_of f.contract.assigns (Clause arguments None) memory

    ranged : line g start_name (Push ∷ ranges_group f) s0 ≡ Next [] (record s0 { sets = plain_sets (set ∷ []) })
    ranged =
        before-nil (line g start_name (ranges_group f) (record s0 { sets = plain_sets (new_set memory ∷ []) }))
        ∙ ranges_line p g start_name (Clause arguments None) (clauses_of f) 1 f.contract.assigns (new_set memory) [] (record s0 { sets = plain_sets (new_set memory ∷ []) }) sound.few sound.assigns bare refl

    by : (b : Bool) → all_hold (Clause arguments None) memory f.contract.requires_ ≡ b → EntryFollows g f (in_start f (requires_place f) s0) (call_place f) st.left (required f arguments st events b)
    by true e =
        record {
          comes =
              comes_join g (in_start f (requires_place f) s0) (in_start f (push_place f) s0) (in_start f (call_place f) (record s0 { sets = plain_sets (set ∷ []) })) [] []
              (comes_line g f (requires_place f) (requires_group f) s0 s0 [] (has_front (start_code f) (requires_place f) (requires_group f) (after_requires f) (has_requires f)) (tested ∙ ap (λ b. required_then b s0) e))
              (comes_line g f (push_place f) (Push ∷ ranges_group f) s0 (record s0 { sets = plain_sets (set ∷ []) }) [] (has_front (start_code f) (push_place f) (Push ∷ ranges_group f) (after_ranges f) (has_push f)) ranged);
          ints = ints;
          count = count;
          left = refl;
        }
    by false e =
        record {
          count = length (requires_group f);
          notes = [];
          world = st.world;
          by =
              line_ends g start_name (start_code f) [] (requires_group f) (requires_place f) s0 [] end.Blocked st.world
              (has_front (start_code f) (requires_place f) (requires_group f) (after_requires f) (has_requires f)) (tested ∙ ap (λ b. required_then b s0) e);
          same = refl;
          choices_left = refl;
          other = λ result x. cc;
        }

-- the arguments
arguments_stage : (p : Program) (events : List Event) (st : State) (s : Now)
    → IsSound p → AreBare st.world.memory → s ≡ record { regs = replicate (start_regs p.function) (Some (pos 0)); sets = no_sets; seen = []; world = st.world }
    → EntryFollows (goto_of p) p.function (in_start p.function 2 s) (call_place p.function) st.left
    (with_arguments p.function st events (draw_arguments p.function.params st.world.choices))
arguments_stage p events st s sound bare es =
    subst (λ x. EntryFollows g f (in_start f 2 x) (call_place f) st.left (with_arguments f st events (draw_arguments f.params st.world.choices))) (sym es)
    (by (draw_arguments f.params st.world.choices) (draws_follow g start_name 0 f.params [] (if f.gives_int then 1 else 0) st.world.choices s0 refl refl refl))
  where
    f : Function
    f = p.function

    g : GotoProgram
    g = goto_of p

    s0 : Now
    s0 = record { regs = replicate (start_regs f) (Some (pos 0)); sets = no_sets; seen = []; world = st.world }

    has : HasAt (start_code f) 2 (draws_code 0 f.params)
    has = has_front (start_code f) 2 (draws_code 0 f.params) (after_draws f) (has_start f).1.1

    by : (d : Drawn (List ℤ)) → DrawsFollow g start_name 0 f.params [] (if f.gives_int then 1 else 0) s0 d
        → EntryFollows g f (in_start f 2 s0) (call_place f) st.left (with_arguments f st events d)
    by (Drew arguments rest more) h =
        let t = with_choices rest st in
        let s1 : Now = record { regs = map Some arguments ++ spare f; sets = no_sets; seen = []; world = t.world } in
        let comes = comes_line g f 2 (draws_code 0 f.params) s0 s1 h.notes has h.by in
        entry_after g f (in_start f 2 s0) (in_start f (requires_place f) s1) (call_place f) st.left _
        (record { count = comes.count; notes = comes.notes; by = comes.by; same = comes.same ∙ h.same })
        (requires_stage p (events ++ more) arguments t s1 sound bare h.ints h.count refl)
    by (Dry more) h =
        record {
          count = length (draws_code 0 f.params);
          notes = h.notes;
          world = record st.world { choices = [] };
          by = line_ends g start_name (start_code f) [] (draws_code 0 f.params) 2 s0 h.notes end.ChoicesEnded (record st.world { choices = [] }) has h.by;
          same = h.same;
          choices_left = refl;
          other = λ result x. cc;
        }

sizes_same : (names : List (List ℕ)) → map (λ v. v.size) (map int_static names) ≡ map (λ name. 4) names
sizes_same [] = refl
sizes_same (name ∷ names) = ap (λ l. 4 ∷ l) (sizes_same names)

zeros_same : (names : List (List ℕ)) → map (λ v. holding Static (replicate v.size 0)) (map int_static names) ≡ map (λ size. holding Static (replicate size 0)) (map (λ name. 4) names)
zeros_same [] = refl
zeros_same (name ∷ names) = ap (λ l. holding Static (replicate 4 0) ∷ l) (zeros_same names)

-- the variables' bytes are written into the objects that stand behind the function
statics_memory : (p : Program) (statics : Memory) → AreStatics (static_sizes p) statics → with_statics (goto_of p) statics (first_memory (goto_of p)) ≡ function_object ∷ statics
statics_memory p statics are =
    ap (λ zeros. rewritten 2 statics (function_object ∷ zeros)) (zeros_same p.statics)
    ∙ rewritten-statics (function_object ∷ []) (static_sizes p) statics are

-- the outside objects
outside_stage : (p : Program) (events : List Event) (statics : Memory) (st : State) (s : Now)
    → IsSound p → AreStatics (static_sizes p) statics → s ≡ record { regs = replicate (start_regs p.function) (Some (pos 0)); sets = no_sets; seen = []; world = (with_memory (function_object ∷ statics) st).world }
    → EntryFollows (goto_of p) p.function (in_start p.function 1 s) (call_place p.function) st.left
    (with_entry p.function st (after events (with_outside (function_object ∷ statics) st.world.choices)))
outside_stage p events statics st s sound are es =
    subst (λ x. EntryFollows g f (in_start f 1 x) (call_place f) st.left (with_entry f st (after events (with_outside (function_object ∷ statics) st.world.choices)))) (sym es)
    (by (with_outside (function_object ∷ statics) st.world.choices) refl)
  where
    f : Function
    f = p.function

    g : GotoProgram
    g = goto_of p

    s0 : Now
    s0 = record { regs = replicate (start_regs f) (Some (pos 0)); sets = no_sets; seen = []; world = (with_memory (function_object ∷ statics) st).world }

    has : HasAt (start_code f) 1 (OutsideObjects ∷ [])
    has = ((has_start f).1.0, tt)

    acts : (d : Drawn Memory) → with_outside (function_object ∷ statics) st.world.choices ≡ d → line g start_name (OutsideObjects ∷ []) s0 ≡ then_next (drawn d s0 (λ memory t. Next [] (with_now_memory memory t))) (line g start_name [])
    acts d e = ap (λ x. then_next (drawn x s0 (λ memory t. Next [] (with_now_memory memory t))) (line g start_name [])) e

    by : (d : Drawn Memory) → with_outside (function_object ∷ statics) st.world.choices ≡ d → EntryFollows g f (in_start f 1 s0) (call_place f) st.left (with_entry f st (after events d))
    by (Drew memory rest more) e =
        let t = with_choices rest (with_memory memory st) in
        let s1 : Now = record s0 { world = t.world } in
        let comes = comes_line g f 1 (OutsideObjects ∷ []) s0 s1 ((map Did more ++ []) ++ []) has (acts (Drew memory rest more) e) in
        entry_after g f (in_start f 1 s0) (in_start f 2 s1) (call_place f) st.left _
        (record { count = comes.count; notes = comes.notes; by = comes.by; same = comes.same ∙ told more })
        (arguments_stage p (events ++ more) t s1 sound (drawn-bare (static_sizes p) statics st.world.choices memory rest more are e) refl)
    by (Dry more) e =
        record {
          count = 1;
          notes = map Did more;
          world = record s0.world { choices = [] };
          by = line_ends g start_name (start_code f) [] (OutsideObjects ∷ []) 1 s0 (map Did more) end.ChoicesEnded (record s0.world { choices = [] }) has (acts (Dry more) e);
          same = fails-did more;
          choices_left = refl;
          other = λ result x. cc;
        }

-- the whole entry
pub entry_follows : (p : Program) (st : State) (w : World)
    → IsSound p → w ≡ record st.world { memory = first_memory (goto_of p) }
    → EntryFollows (goto_of p) p.function
    (in_start p.function 0 (record { regs = replicate (start_regs p.function) (Some (pos 0)); sets = no_sets; seen = []; world = w }))
    (call_place p.function) st.left (entered p st)
entry_follows p st w sound ew =
    subst (λ x. EntryFollows g f (in_start f 0 (record { regs = replicate (start_regs f) (Some (pos 0)); sets = no_sets; seen = []; world = x })) (call_place f) st.left (entered p st)) (sym ew)
    (by (static_objects (static_sizes p) st.world.choices) refl)
  where
    f : Function
    f = p.function

    g : GotoProgram
    g = goto_of p

    s0 : Now
    s0 = record { regs = replicate (start_regs f) (Some (pos 0)); sets = no_sets; seen = []; world = record st.world { memory = first_memory g } }

    has : HasAt (start_code f) 0 (Statics ∷ [])
    has = ((has_start f).0, tt)

    go : Memory → Now → Now
    go statics t = with_now_memory (with_statics g statics t.world.memory) t

    acts : (d : Drawn Memory) → static_objects (static_sizes p) st.world.choices ≡ d → line g start_name (Statics ∷ []) s0 ≡ then_next (drawn d s0 (λ statics t. Next [] (go statics t))) (line g start_name [])
    acts d e =
        ap (λ sizes. then_next (drawn (static_objects sizes st.world.choices) s0 (λ statics t. Next [] (go statics t))) (line g start_name [])) (sizes_same p.statics)
        ∙ ap (λ x. then_next (drawn x s0 (λ statics t. Next [] (go statics t))) (line g start_name [])) e

    by : (d : Drawn Memory) → static_objects (static_sizes p) st.world.choices ≡ d
        → EntryFollows g f (in_start f 0 s0) (call_place f) st.left (with_entry f st (bind d (λ statics. with_outside (function_object ∷ statics))))
    by (Drew statics rest more) e =
        let t = with_choices rest st in
        let are : AreStatics (static_sizes p) statics = subst (DrewStatics (static_sizes p)) e (drawn-statics (static_sizes p) st.world.choices) in
        let s1 : Now = record s0 { world = (with_memory (with_statics g statics (first_memory g)) t).world } in
        let comes = comes_line g f 0 (Statics ∷ []) s0 s1 ((map Did more ++ []) ++ []) has (acts (Drew statics rest more) e) in
        entry_after g f (in_start f 0 s0) (in_start f 1 s1) (call_place f) st.left _
        (record { count = comes.count; notes = comes.notes; by = comes.by; same = comes.same ∙ told more })
        (outside_stage p more statics t s1 sound are (ap (λ m. record s0 { world = (with_memory m t).world }) (statics_memory p statics are)))
    by (Dry more) e =
        record {
          count = 1;
          notes = map Did more;
          world = record s0.world { choices = [] };
          by = line_ends g start_name (start_code f) [] (Statics ∷ []) 0 s0 (map Did more) end.ChoicesEnded (record s0.world { choices = [] }) has (acts (Dry more) e);
          same = fails-did more;
          choices_left = refl;
          other = λ result x. cc;
        }
