-- The body of the function does what the function does, and a call of it from the start does what the call does.
use Rattle.std.proofs.Common.{◌≡◌, ℕ, zero, suc, ◌+◌, ◌-◌, ◌<◌, ◌≤◌, ◌^◌, Bool, true, false, List, [], ◌∷◌, ◌++◌, length, Option, Some, None, refl, ap, sym, ◌∙◌, subst, arith, ℤ, pos, append_assoc, append-nil, length-append, inl, inr}
use Rattle.std.specs.Prelude.{◌⊎◌, slice_get, replicate, map, nat_lt, if◌then◌else◌}
use Rattle.dc_core.specs.Event.{End, Return as CameBack}
use Rattle.dc_core.specs.Event as end
use Rattle.dc_core.specs.World.{left, kill_events}
use Rattle.dc_core.specs.Program.{Function, Program}
use Rattle.dc_core.specs.Contract.{WriteSet}
use Rattle.dc_core.specs.Sound.{IsSound}
use Rattle.dc_core.specs.Run.{State, Out, Normal, Returned, Ended, Cut, Note, Did, noted, contract_mode, run, with_parameters, finished, leaving, without_locals, call}
use Rattle.dc_goto.specs.Program.{Instr, Call, Return, Trap, GotoProgram}
use Rattle.dc_goto.specs.Values.{joined}
use Rattle.dc_goto.specs.Acts.{Then, all_given, defined}
use Rattle.dc_goto.specs.Machine.{Registers, Now, Enters, with_result, Machine, Going, Stopped, noted as noted_run, proceed, entered, entered_body, body_of, function_number, first_registers, caller, depth_limit, left_body, steps}
use Rattle.dc_goto.proofs.Notes.{fails, fails-append}
use Rattle.dc_goto.proofs.Line.{HasAt, has_front, has_back, has_all, line_next, line_ends}
use Rattle.dc_goto.proofs.Steps.{one, steps_join}
use Rattle.dc_goto.proofs.Registers.{get-back, get-front, get-there, get-map, length-map, pointwise-refl}
use Rattle.dc_instrument.specs.Lowering.{statements_code, parameters_code, last_instr, function_body, argument_terms, result_register, goto_of}
use Rattle.dc_instrument.proofs.Exact.Sets.{plain_sets}
use Rattle.dc_instrument.proofs.Exact.Values.{Held, AllHeld}
use Rattle.dc_instrument.proofs.Exact.Parameters.{pointer_register, body_registers, AllSmall, Made, Full, parameters_follow}
use Rattle.dc_instrument.proofs.Exact.Follow.{Comes, Stops, Waits, Leaves, Spot, now, in_body, ResultFits, Follows, after}
use Rattle.dc_instrument.proofs.Exact.Statements.{statements_follow}

-- The body --------------------------------------------------------------------------------------------------------

-- the machine does what a whole body does
abbrev pub Finishes : GotoProgram → Bool → Spot → Machine → ℕ → Out Note → Type 0
Finishes g gives_int c m n (Normal notes st) = ⊥
Finishes g gives_int c m n (Returned notes value st) = Leaves g c m (fails notes) value st.world × ResultFits gives_int value
Finishes g gives_int c m n (Ended notes end w) = Stops g m (fails notes) end w
Finishes g gives_int c m n (Cut notes w) = Waits g m (fails notes) n

-- the end of a body
finish : (g : GotoProgram) (f : Function) (c : Spot) (m : Machine) (n place : ℕ) (o : Out Note)
    → c.name ≡ f.name → slice_get c.code place ≡ Some (last_instr f.gives_int) → Follows g f.gives_int c m n place o → Finishes g f.gives_int c m n (finished f o)
finish g f c m n place (Returned notes value st) name last h = h
finish g f c m n place (Ended notes end w) name last h = h
finish g f c m n place (Cut notes w) name last h = h
finish g f c m n place (Normal notes st) name last h = by f.gives_int last
  where
    by : (b : Bool) → slice_get c.code place ≡ Some (last_instr b) → Finishes g b c m n (if b then Ended notes (end.Undefined f.name) st.world else Returned notes None st)
    by true last =
        let comes = h.1 in
        record {
          count = comes.count + 1;
          notes = comes.notes ++ [];
          by =
              steps_join g comes.count 1 m (in_body c place h.0 st.world) comes.notes (Stopped [] (end.Undefined f.name) st.world) comes.by
              (one g (in_body c place h.0 st.world) Trap (Stopped [] (end.Undefined f.name) st.world) last (ap (λ x. Stopped [] (end.Undefined x) st.world) name));
          same = ap fails (append-nil comes.notes) ∙ comes.same;
        }
    by false last =
        let comes = h.1 in (
          record {
            count = comes.count + 1;
            notes = comes.notes;
            regs = h.0;
            by =
                steps_join g comes.count 1 m (in_body c place h.0 st.world) comes.notes (left_body (now c h.0 st.world) None c.frames) comes.by
                (one g (in_body c place h.0 st.world) (Return None) (left_body (now c h.0 st.world) None c.frames) last refl);
            same = comes.same;
          },
          tt,
        )

small_at : (made : List ℕ) (k q : ℕ) → AllSmall made → slice_get made k ≡ Some q → q < 2 ^ 64
small_at [] k q small e = cc
small_at (x ∷ made) zero q small e = let f : x ≡ q = cc in subst (λ y. y < 2 ^ 64) f small.0
small_at (x ∷ made) (suc k) q small e = small_at made k q small.1 e

-- the parameters' objects are named by the registers behind the arguments
held_made : (arguments : List ℤ) (made : List ℕ) (n first k : ℕ) → first ≡ length arguments → k < length made → AllSmall made → Held made (body_registers arguments made n) first k
held_made arguments made n first k ef lt small =
    let q = get-there made k lt in
    let a = length-map Some arguments in
    let b = length-map pointer_register made in
    record {
      pointer = q.0;
      known = q.1;
      register =
          get-back (map Some arguments) (map pointer_register made ++ replicate n (Some (pos 0))) k (first + k) (omega arith)
          ∙ get-front (map pointer_register made) (replicate n (Some (pos 0))) k (omega arith)
          ∙ get-map pointer_register made k
          ∙ ap map_pointer q.1;
      small = small_at made k q.0 small q.1;
    }
  where
    map_pointer : Option ℕ → Option (Option ℤ)
    map_pointer None = None
    map_pointer (Some q) = Some (pointer_register q)

length-body_registers : (arguments : List ℤ) (made : List ℕ) (n : ℕ) → length (body_registers arguments made n) ≡ length arguments + (length made + n)
length-body_registers arguments made n =
    let a = length-map Some arguments in
    let b = length-map pointer_register made in
    omega (arith, length-append (map Some arguments) (map pointer_register made ++ replicate n (Some (pos 0))), length-append (map pointer_register made) (replicate n (Some (pos 0))), zeros n)
  where
    zeros : (n : ℕ) → length (replicate n (Some (pos 0))) ≡ n
    zeros zero = refl
    zeros (suc n) = ap suc (zeros n)

-- the body from its first instruction on
body_finishes : (p : Program) (g : GotoProgram) (c : Spot) (set : WriteSet) (outer : List WriteSet) (arguments : List ℤ) (st : State)
    → IsSound p → c.name ≡ p.function.name → c.code ≡ (function_body p.function).code → c.sets ≡ plain_sets (set ∷ outer)
    → length arguments ≡ p.function.params
    → Finishes g p.function.gives_int c (in_body c 0 (body_registers arguments [] (length arguments + length p.function.body)) st.world) st.left
    (finished p.function (with_parameters contract_mode arguments [] st (λ places t. run contract_mode c.name set places p.function.body t)))
body_finishes p g c set outer arguments st sound ename ecode esets elen =
    by (parameters_follow g c.name arguments first 0 [] arguments [] (length f.body) st s refl (sym elen) refl refl tt refl refl)
  where
    f : Function
    f = p.function

    first : ℕ
    first = f.params

    s : Now
    s = now c (body_registers arguments [] (length arguments + length f.body)) st.world

    m : Machine
    m = in_body c 0 (body_registers arguments [] (length arguments + length f.body)) st.world

    go : List ℕ → State → Out Note
    go places t = run contract_mode c.name set places f.body t

    pcode : List Instr
    pcode = parameters_code first 0 (length arguments)

    scode : List Instr
    scode = statements_code c.name first (first + first) f.body

    code_is : c.code ≡ pcode ++ (scode ++ last_instr f.gives_int ∷ [])
    code_is =
        ecode
        ∙ ap (λ n. parameters_code first 0 n ++ (statements_code f.name first (first + first) f.body ++ last_instr f.gives_int ∷ [])) (sym elen)
        ∙ ap (λ n. pcode ++ (statements_code n first (first + first) f.body ++ last_instr f.gives_int ∷ [])) (sym ename)

    has : HasAt c.code 0 (pcode ++ (scode ++ last_instr f.gives_int ∷ []))
    has = subst (λ l. HasAt l 0 (pcode ++ (scode ++ last_instr f.gives_int ∷ []))) (sym code_is) (has_all (pcode ++ (scode ++ last_instr f.gives_int ∷ [])))

    has_rest : HasAt c.code (0 + length pcode) (scode ++ last_instr f.gives_int ∷ [])
    has_rest = has_back c.code 0 pcode (scode ++ last_instr f.gives_int ∷ []) has

    Goal : Out Note → Type 0
    Goal o = Finishes g f.gives_int c m st.left (finished f o)

    by : Made g c.name arguments first 0 arguments [] (length f.body) st s ⊎ Full g c.name first 0 arguments [] st s → Goal (with_parameters contract_mode arguments [] st go)
    by (inl a) =
        let place = (0 + length pcode) + length scode in
        let counted = a.count in
        let regs = body_registers arguments a.made (length f.body) in
        let long : length regs ≡ length arguments + (length a.made + length f.body) = length-body_registers arguments a.made (length f.body) in
        let l : a.after.left ≡ st.left = a.left in
        let held : AllHeld p a.made regs first = λ k lt. held_made arguments a.made (length f.body) first k (sym elen) (omega arith) a.small in
        let body = statements_follow p g c set outer a.made first (first + first) (0 + length pcode) f.body regs a.after sound.few esets held (omega arith) (omega arith) sound.body
        (has_front c.code (0 + length pcode) scode (last_instr f.gives_int ∷ []) has_rest) in
        let whole = after g f.gives_int c m (in_body c (0 + length pcode) regs a.after.world) (length pcode) st.left a.after.left place a.notes a.notes (go a.made a.after)
        (line_next g c.name c.code c.frames pcode 0 s (now c regs a.after.world) a.notes (has_front c.code 0 pcode (scode ++ last_instr f.gives_int ∷ []) has) a.target)
        refl (omega arith) body in
        subst Goal (sym (a.source go))
        (finish g f c m st.left place (noted a.notes (go a.made a.after)) ename (has_back c.code (0 + length pcode) scode (last_instr f.gives_int ∷ []) has_rest).0 whole)
    by (inr full) =
        subst Goal (sym (full.source go))
        (record {
          count = length pcode;
          notes = full.notes;
          by = line_ends g c.name c.code c.frames pcode 0 s full.notes end.ObjectLimit full.world (has_front c.code 0 pcode (scode ++ last_instr f.gives_int ∷ []) has) full.target;
          same = refl;
        })

-- The call --------------------------------------------------------------------------------------------------------

-- the machine does what a call does, and goes on behind it
abbrev pub Calls : GotoProgram → Bool → Machine → Option ℕ → ℕ → Out Note → Type 0
Calls g gives_int m r n (Normal notes st) = ⊥
Calls g gives_int m r n (Returned notes value st) =
    Comes g m (fails notes) (record m { place = suc m.place; now = record m.now { regs = with_result r value m.now.regs; world = st.world } }) × ResultFits gives_int value
Calls g gives_int m r n (Ended notes end w) = Stops g m (fails notes) end w
Calls g gives_int m r n (Cut notes w) = Waits g m (fails notes) n

-- the arguments stand in their registers
arguments_given : (name : List ℕ) (s : Now) (done rest : List ℤ) (more : Registers) (i : ℕ) (go : List ℤ → Now → Then)
    → i ≡ length done → s.regs ≡ map Some (done ++ rest) ++ more → all_given name s (argument_terms i (length rest)) go ≡ go rest s
arguments_given name s done [] more i go ei er = refl
arguments_given name s done (v ∷ rest) more i go ei er =
    let here : slice_get s.regs i ≡ Some (Some v) = ap (λ l. slice_get l i) er ∙ argument done more i ei in
    ap (λ o. defined name (joined o) s (λ v. all_given name s (argument_terms (suc i) (length rest)) (λ values u. go (v ∷ values) u))) here
    ∙ arguments_given name s (done ++ v ∷ []) rest more (suc i) (λ values u. go (v ∷ values) u)
    (omega (arith, length-append done (v ∷ []))) (er ∙ ap (λ l. map Some l ++ more) (sym (append_assoc done (v ∷ []) rest)))
  where
    argument : (done : List ℤ) (more : Registers) (i : ℕ) → i ≡ length done → slice_get (map Some (done ++ v ∷ rest) ++ more) i ≡ Some (Some v)
    argument [] more zero e = refl
    argument [] more (suc i) e = absurd (omega arith)
    argument (x ∷ done) more zero e = absurd (omega arith)
    argument (x ∷ done) more (suc i) e = argument done more i (omega arith)

first_registers_are : (p : Program) (arguments : List ℤ) → length arguments ≡ p.function.params → first_registers (function_body p.function) arguments ≡ body_registers arguments [] (length arguments + length p.function.body)
first_registers_are p arguments e =
    let n : p.function.params + p.function.params + length p.function.body - length arguments ≡ length arguments + length p.function.body = omega arith in
    ap (λ k. map Some arguments ++ replicate k (Some (pos 0))) n

shallow : nat_lt 0 depth_limit ≡ true
unfolding depth_limit
shallow = refl

-- a call of the function from the start
pub call_follows : (p : Program) (m : Machine) (set : WriteSet) (arguments : List ℤ) (more : Registers) (st : State)
    → IsSound p → m.frames ≡ [] → m.now.sets ≡ plain_sets (set ∷ []) → m.now.world ≡ st.world
    → slice_get m.code m.place ≡ Some (Call (result_register p.function) p.function.name (argument_terms 0 p.function.params))
    → length arguments ≡ p.function.params → m.now.regs ≡ map Some arguments ++ more
    → Calls (goto_of p) p.function.gives_int m (result_register p.function) st.left (call contract_mode p.function set arguments st)
call_follows p m set arguments more st sound eframes esets eworld has elen eregs =
    by (finished f (with_parameters contract_mode arguments [] (without_locals st) (λ places t. run contract_mode f.name set places f.body t)))
    (body_finishes p g c set [] arguments (without_locals st) sound refl refl esets elen)
  where
    f : Function
    f = p.function

    g : GotoProgram
    g = goto_of p

    r : Option ℕ
    r = result_register f

    c : Spot
    c = record { name = f.name; code = (function_body f).code; frames = caller m m.now r ∷ m.frames; sets = m.now.sets; seen = m.now.seen }

    inner : Machine
    inner = in_body c 0 (body_registers arguments [] (length arguments + length f.body)) (without_locals st).world

    found : body_of g.bodies f.name ≡ Some (function_body f)
    found = ap (λ b. if b then Some (function_body f) else body_of (Rattle.dc_instrument.specs.Lowering.start_body f ∷ []) f.name) (pointwise-refl f.name)

    numbered : function_number 1 g.functions f.name ≡ 1
    numbered = ap (λ b. if b then 1 else 2) (pointwise-refl f.name)

    values : (go : List ℤ → Now → Then) → all_given m.name m.now (argument_terms 0 f.params) go ≡ go arguments m.now
    values go =
        ap (λ n. all_given m.name m.now (argument_terms 0 n) go) (sym elen)
        ∙ arguments_given m.name m.now [] arguments more 0 go refl eregs

    enters : steps g 1 m ≡ Going (Did (end.Call 1) ∷ []) inner
    enters =
        one g m (Call r f.name (argument_terms 0 f.params)) (Going (Did (end.Call 1) ∷ []) inner) has
        (ap (proceed g m) (values (λ vs t. Enters r f.name vs t))
        ∙ ap (λ l. entered g m m.now r f.name arguments (nat_lt (length l) depth_limit)) eframes
        ∙ ap (entered g m m.now r f.name arguments) shallow
        ∙ ap (λ n. noted_run (Did (end.Call n) ∷ []) (entered_body m m.now r f.name arguments (body_of g.bodies f.name))) numbered
        ∙ ap (λ o. noted_run (Did (end.Call 1) ∷ []) (entered_body m m.now r f.name arguments o)) found
        ∙ ap (λ l. Going (Did (end.Call 1) ∷ []) (in_body c 0 l (record m.now.world { locals = [] }))) (first_registers_are p arguments elen)
        ∙ ap (λ w. Going (Did (end.Call 1) ∷ []) (in_body c 0 (body_registers arguments [] (length arguments + length f.body)) (record w { locals = [] }))) eworld)

    by : (o : Out Note) → Finishes g f.gives_int c inner st.left o → Calls g f.gives_int m r st.left (noted (Did (end.Call 1) ∷ []) (leaving contract_mode st.world.locals o))
    by (Normal notes t) h = h
    by (Returned notes value t) h =
        let l = h.0 in
        let events = map Did (kill_events t.world ++ CameBack ∷ []) in
        let back : Machine = record m { place = suc m.place; now = record m.now { regs = with_result r value m.now.regs; world = left st.world.locals t.world } } in
        let left_it : left_body (now c l.regs t.world) value c.frames ≡ Going events back =
        ap (λ fs. Going events (record m { place = suc m.place; frames = fs; now = record m.now { regs = with_result r value m.now.regs; world = left m.now.world.locals t.world } })) refl
        ∙ ap (λ w. Going events (record m { place = suc m.place; now = record m.now { regs = with_result r value m.now.regs; world = left w.locals t.world } })) eworld in (
          record {
            count = 1 + l.count;
            notes = Did (end.Call 1) ∷ (l.notes ++ events);
            by = steps_join g 1 l.count m inner (Did (end.Call 1) ∷ []) _ enters (l.by ∙ ap (noted_run l.notes) left_it);
            same = fails-append l.notes events ∙ ap (λ x. x ++ fails events) l.same ∙ sym (fails-append notes events);
          },
          h.1,
        )
    by (Ended notes e w) h =
        record {
          count = 1 + h.count;
          notes = Did (end.Call 1) ∷ h.notes;
          by = steps_join g 1 h.count m inner (Did (end.Call 1) ∷ []) _ enters h.by;
          same = h.same;
        }
    by (Cut notes w) h =
        let enough : st.left ≤ h.count = h.enough in
        record {
          count = 1 + h.count;
          notes = Did (end.Call 1) ∷ h.notes;
          state = h.state;
          by = steps_join g 1 h.count m inner (Did (end.Call 1) ∷ []) _ enters h.by;
          same = h.same;
          enough = omega arith;
        }
