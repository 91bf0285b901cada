-- The code of statements does what the statements do.
use Rattle.std.proofs.Common.{◌≡◌, ℕ, zero, suc, ◌+◌, ◌<◌, ◌≤◌, Bool, true, false, List, [], ◌∷◌, ◌++◌, length, Option, Some, None, refl, ap, sym, ◌∙◌, subst, arith, ℤ, append-nil, inl, inr}
use Rattle.std.specs.Prelude.{◌⊎◌, slice_set, map, if◌then◌else◌, All}
use Rattle.std.proofs.lemmas.List.Elements.{All-head, All-tail}
use Rattle.dc_num.specs.declared.kind.NumKind.TheVariants.{S32}
use Rattle.dc_num.specs.Kinds.{IsValue}
use Rattle.dc_core.specs.Assertion.{assigns_name}
use Rattle.dc_core.specs.Event.{End, Write}
use Rattle.dc_core.specs.Event as end
use Rattle.dc_memory.specs.declared.kind.MemKind.TheVariants as mem
use Rattle.dc_memory.specs.Objects.{Memory}
use Rattle.dc_memory.specs.Places.{object_of, offset_of, is_inside}
use Rattle.dc_memory.specs.Access.{store}
use Rattle.dc_core.specs.Program.{Expr, Stmt, Assign, Return as ReturnStmt, Program}
use Rattle.dc_core.specs.Term.{Term, Register}
use Rattle.dc_core.specs.Value.{Body, value, place}
use Rattle.dc_core.specs.Contract.{WriteSet, allowed, claimed, Wrote}
use Rattle.dc_core.specs.Sound.{Stands, IsLvalue, StmtStands}
use Rattle.dc_core.specs.Run.{State, Out, Normal, Returned, Ended, Note, Did, Failed, checked, tick_at, with_some, then_do, contract_mode, perform, write, run, with_memory}
use Rattle.dc_core.proofs.Numbers.{HasInt}
use Rattle.dc_goto.specs.Program.{Instr, Set, Store, Covers, Return, GotoProgram}
use Rattle.dc_goto.specs.Machine.{Registers, Now, Then, Next, Ends, Leaves as LeavesWith, act, proceed, Going, left_body}
use Rattle.dc_goto.specs.Values.{joined}
use Rattle.dc_goto.specs.Acts.{defined, with_register, with_memory as with_now_memory}
use Rattle.dc_goto.proofs.Notes.{fails, fails-append}
use Rattle.dc_goto.proofs.Line.{HasAt, has_front, has_back, line, line_next, line_ends, before, then_next, before-nil}
use Rattle.dc_goto.proofs.Steps.{one, steps_join}
use Rattle.dc_goto.proofs.Registers.{get-set-other, get-set-same, length-set}
use Rattle.dc_instrument.specs.Lowering.{term_of, place_term, int_len, statements_code}
use Rattle.dc_instrument.specs.declared.places.Places.TheVariants as places
use Rattle.dc_instrument.proofs.Exact.Plain.{IsPlain, plain_value, pointer_value, set_acts, store_acts, covers_acts}
use Rattle.dc_instrument.proofs.Exact.Sets.{plain_sets, covered_same}
use Rattle.dc_instrument.proofs.Exact.Values.{SameInt, SamePlace, Held, AllHeld, value_plain, place_plain, value_same, place_same, body_fits}
use Rattle.dc_instrument.proofs.Exact.Follow.{Spot, now, in_body, ResultFits, Follows, after}

-- Instructions of a line -----------------------------------------------------------------------------------------

set_none : (g : GotoProgram) (name : List ℕ) (r : ℕ) (e : Term) (is : List Instr) (s : Now)
    → IsPlain e → plain_value s.regs s.world.memory e ≡ None → line g name (Set r e ∷ is) s ≡ Ends [] (end.Undefined name) s.world
set_none g name r e is s plain h =
    ap (λ t. then_next t (line g name is)) (set_acts g name s r e plain ∙ ap (λ o. defined name o s (λ v. Next [] (with_register r (Some v) s))) h)

set_some : (g : GotoProgram) (name : List ℕ) (r : ℕ) (e : Term) (is : List Instr) (s : Now) (v : ℤ)
    → IsPlain e → plain_value s.regs s.world.memory e ≡ Some v → line g name (Set r e ∷ is) s ≡ line g name is (with_register r (Some v) s)
set_some g name r e is s v plain h =
    ap (λ t. then_next t (line g name is)) (set_acts g name s r e plain ∙ ap (λ o. defined name o s (λ v. Next [] (with_register r (Some v) s))) h)
    ∙ before-nil (line g name is (with_register r (Some v) s))

-- an int is written, or the run ends
abbrev stores : List ℕ → Now → ℕ → Option Memory → Then
stores name s pointer o = defined name o s (λ memory. Next (Did (Write (object_of pointer) (offset_of pointer) 4) ∷ []) (with_now_memory memory s))

store_act : (g : GotoProgram) (name : List ℕ) (a e : Term) (s : Now) (pointer : ℕ) (v : ℤ)
    → IsPlain a → IsPlain e → pointer_value s.regs s.world.memory a ≡ Some pointer → plain_value s.regs s.world.memory e ≡ Some v
    → act g name (Store S32 a e) s ≡ stores name s pointer (store mem.S32 pointer v s.world.memory)
store_act g name a e s pointer v plain_a plain_e ha he =
    store_acts g name s a e plain_a plain_e
    ∙ ap (λ o. defined name o s (λ q. defined name (plain_value s.regs s.world.memory e) s (λ x. stores name s q (store mem.S32 q x s.world.memory)))) ha
    ∙ ap (λ o. defined name o s (λ x. stores name s pointer (store mem.S32 pointer x s.world.memory))) he

-- where the range isn't inside a live object, nothing is written
store_outside : (pointer : ℕ) (v : ℤ) (memory : Memory) → store mem.S32 pointer v memory ≡ None → is_inside memory pointer 4 ≡ false
unfolding store
store_outside pointer v memory h = by (is_inside memory pointer 4) _ refl h
  where
    by : (b : Bool) (m : Memory) → is_inside memory pointer 4 ≡ b → (if b then Some m else None) ≡ None → is_inside memory pointer 4 ≡ false
    by true m e h = cc
    by false m e h = e

store_inside : (pointer : ℕ) (v : ℤ) (memory m' : Memory) → store mem.S32 pointer v memory ≡ Some m' → is_inside memory pointer 4 ≡ true
unfolding store
store_inside pointer v memory m' h = by (is_inside memory pointer 4) _ refl h
  where
    by : (b : Bool) (m : Memory) → is_inside memory pointer 4 ≡ b → (if b then Some m else None) ≡ Some m' → is_inside memory pointer 4 ≡ true
    by true m e h = e
    by false m e h = cc

-- Registers of the parameters ---------------------------------------------------------------------------------------

held_set : (places : List ℕ) (regs : Registers) (first k r : ℕ) (x : Option ℤ) → first + k < r → Held places regs first k → Held places (slice_set regs r x) first k
held_set places regs first k r x lt h =
    record { pointer = h.pointer; known = h.known; register = get-set-other regs r (first + k) x lt ∙ h.register; small = h.small }

pub all_held_set : (p : Program) (places : List ℕ) (regs : Registers) (first r : ℕ) (x : Option ℤ) → first + p.function.params ≤ r → AllHeld p places regs first → AllHeld p places (slice_set regs r x) first
all_held_set p places regs first r x le held k h = held_set places regs first k r x (omega arith) (held k h)

-- Statements --------------------------------------------------------------------------------------------------------

-- what an assignment does on both sides
pub record Assigned (g : GotoProgram) (c : Spot) (code : List Instr) (regs : Registers) (r : ℕ) (o : Out Note) (st : State) : Type 0 where
  pub notes : List Note
  pub more : List Note
  pub v : ℤ
  pub after : State
  pub source : o ≡ Normal notes after
  pub left : after.left ≡ st.left
  pub target : line g c.name code (now c regs st.world) ≡ Next more (now c (slice_set regs r (Some v)) after.world)
  pub same : fails more ≡ fails notes

pub record Undefined (g : GotoProgram) (c : Spot) (code : List Instr) (regs : Registers) (o : Out Note) (st : State) : Type 0 where
  pub notes : List Note
  pub more : List Note
  pub source : o ≡ Ended notes (end.Undefined c.name) st.world
  pub target : line g c.name code (now c regs st.world) ≡ Ends more (end.Undefined c.name) st.world
  pub same : fails more ≡ fails notes

abbrev assign_code : Spot → ℕ → ℕ → ℕ → Expr → Expr → List Instr
assign_code c first r site target e = Set r (term_of (places.Body first) e) ∷ Covers (assigns_name c.name site) (place_term (places.Body first) target) int_len ∷ Store S32 (place_term (places.Body first) target) (Register r) ∷ []

assign_follows : (p : Program) (g : GotoProgram) (c : Spot) (set : WriteSet) (outer : List WriteSet) (at_places : List ℕ) (first r site : ℕ) (target e : Expr) (regs : Registers) (st : State)
    → length p.statics ≤ 32766 → c.sets ≡ plain_sets (set ∷ outer) → AllHeld p at_places regs first → first + p.function.params ≤ r → r < length regs
    → IsLvalue p target → Stands p false e
    → Assigned g c (assign_code c first r site target e) regs r (perform contract_mode c.name set at_places (Assign site target e) st) st
    ⊎ Undefined g c (assign_code c first r site target e) regs (perform contract_mode c.name set at_places (Assign site target e) st) st
assign_follows p g c set outer at_places first r site target e regs st few es held above below lv stands =
    by_value (value (Body at_places) memory e) refl
  where
    memory : Memory
    memory = st.world.memory

    a : Term
    a = place_term (places.Body first) target

    name : List ℕ
    name = assigns_name c.name site

    s : Now
    s = now c regs st.world

    vs : SameInt (value (Body at_places) memory e) (plain_value regs memory (term_of (places.Body first) e))
    vs = value_same p false (Body at_places) (places.Body first) regs memory e few (body_fits p at_places regs memory first held) stands

    plain : IsPlain (term_of (places.Body first) e)
    plain = value_plain (places.Body first) e

    rest : List Instr
    rest = Covers name a int_len ∷ Store S32 a (Register r) ∷ []

    Goal : Out Note → Type 0
    Goal o = Assigned g c (Set r (term_of (places.Body first) e) ∷ rest) regs r o st ⊎ Undefined g c (Set r (term_of (places.Body first) e) ∷ rest) regs o st

    source_of : Option ℤ → Out Note
    source_of o = with_some (end.Undefined c.name) st.world o (λ v. with_some (end.Undefined c.name) st.world (place (Body at_places) target) (λ pointer. write contract_mode c.name set site pointer v st))

    written : Option ℕ → ℤ → Out Note
    written o v = with_some (end.Undefined c.name) st.world o (λ pointer. write contract_mode c.name set site pointer v st)

    stored : ℕ → Option Memory → Out Note
    stored pointer o = with_some (end.Undefined c.name) st.world o (λ m. Normal (contract_mode.acted set (Wrote c.name site (object_of pointer) (offset_of pointer) 4)) (with_memory m st))

    by_value : (o : Option ℤ) → value (Body at_places) memory e ≡ o → Goal (source_of (value (Body at_places) memory e))
    by_value None ev =
        inr (record {
          notes = [];
          more = [];
          source = ap source_of ev;
          target = set_none g c.name r (term_of (places.Body first) e) rest s plain (sym vs.same ∙ ev);
          same = refl;
        })
    by_value (Some v) ev = by_store (store mem.S32 ps.pointer v memory) refl
      where
        regs' : Registers
        regs' = slice_set regs r (Some v)

        s' : Now
        s' = now c regs' st.world

        held' : AllHeld p at_places regs' first
        held' = all_held_set p at_places regs first r (Some v) above held

        ps : SamePlace (place (Body at_places) target) (pointer_value regs' memory a)
        ps = place_same p at_places regs' memory first target few held' lv

        pointer_is : pointer_value regs' memory a ≡ Some ps.pointer
        pointer_is = sym ps.same ∙ ps.known

        register_is : plain_value regs' memory (Register r) ≡ Some v
        register_is = ap joined (get-set-same regs r (Some v) below)

        source_is : source_of (value (Body at_places) memory e) ≡ stored ps.pointer (store mem.S32 ps.pointer v memory)
        source_is = ap source_of ev ∙ ap (λ o. written o v) ps.known

        store_is : act g c.name (Store S32 a (Register r)) s' ≡ stores c.name s' ps.pointer (store mem.S32 ps.pointer v memory)
        store_is = store_act g c.name a (Register r) s' ps.pointer v (place_plain first target) tt pointer_is register_is

        test : Bool → Bool
        test b = if b then allowed set (object_of ps.pointer) (offset_of ps.pointer) 4 else true

        covers_is : (b : Bool) → is_inside memory ps.pointer 4 ≡ b → act g c.name (Covers name a int_len) s' ≡ Next (checked name (test b)) s'
        covers_is b hb =
            covers_acts g c.name s' name a int_len (place_plain first target) tt
            ∙ ap (λ t. Next (checked name t) s') (covered_same set outer s' (plain_value regs' memory a) ps.pointer b es pointer_is hb)

        target_is : (b : Bool) (t : Then) → is_inside memory ps.pointer 4 ≡ b → act g c.name (Store S32 a (Register r)) s' ≡ t
            → line g c.name (Set r (term_of (places.Body first) e) ∷ rest) s ≡ before (checked name (test b)) (then_next t (line g c.name []))
        target_is b t hb ht =
            set_some g c.name r (term_of (places.Body first) e) rest s v plain (sym vs.same ∙ ev)
            ∙ ap (λ x. then_next x (line g c.name (Store S32 a (Register r) ∷ []))) (covers_is b hb)
            ∙ ap (λ x. before (checked name (test b)) (then_next x (line g c.name []))) ht

        by_store : (o : Option Memory) → store mem.S32 ps.pointer v memory ≡ o → Goal (source_of (value (Body at_places) memory e))
        by_store None eo =
            inr (record {
              notes = [];
              more = checked name true;
              source = source_is ∙ ap (stored ps.pointer) eo;
              target =
                  target_is false (Ends [] (end.Undefined c.name) st.world) (store_outside ps.pointer v memory eo)
                  (store_is ∙ ap (stores c.name s' ps.pointer) eo)
                  ∙ ap (λ ns. Ends ns (end.Undefined c.name) st.world) (append-nil (checked name true));
              same = refl;
            })
        by_store (Some m) eo =
            let ok = allowed set (object_of ps.pointer) (offset_of ps.pointer) 4 in
            let did = Did (Write (object_of ps.pointer) (offset_of ps.pointer) 4) in
            inl (record {
              notes = did ∷ map Failed (claimed name ok);
              more = checked name ok ++ did ∷ [];
              v = v;
              after = with_memory m st;
              source = source_is ∙ ap (stored ps.pointer) eo;
              left = refl;
              target =
                  target_is true (Next (did ∷ []) (with_now_memory m s')) (store_inside ps.pointer v memory m eo)
                  (store_is ∙ ap (stores c.name s' ps.pointer) eo);
              same =
                  fails-append (checked name ok) (did ∷ [])
                  ∙ append-nil (fails (checked name ok));
            })

-- the code of statements does what the statements do
pub statements_follow : (p : Program) (g : GotoProgram) (c : Spot) (set : WriteSet) (outer : List WriteSet) (at_places : List ℕ) (first r pc : ℕ) (body : List Stmt) (regs : Registers) (st : State)
    → length p.statics ≤ 32766 → c.sets ≡ plain_sets (set ∷ outer) → AllHeld p at_places regs first → first + p.function.params ≤ r → r + length body ≤ length regs
    → All (StmtStands p) body → HasAt c.code pc (statements_code c.name first r body)
    → Follows g p.function.gives_int c (in_body c pc regs st.world) st.left (pc + length (statements_code c.name first r body)) (run contract_mode c.name set at_places body st)
statements_follow p g c set outer at_places first r pc [] regs st few es held above below all has =
    let e : pc ≡ pc + 0 = omega arith in
    (regs, record { count = 0; notes = []; by = ap (λ k. Going [] (in_body c k regs st.world)) e; same = refl })
statements_follow p g c set outer at_places first r pc (Assign site target e ∷ body) regs st few es held above below all has =
    by_left st.left
    (λ k. assign_follows p g c set outer at_places first r site target e regs (with_left k) few es held above (omega arith) (All-head (StmtStands p) (Assign site target e) body all).0 (All-head (StmtStands p) (Assign site target e) body all).1)
    (λ k a. statements_follow p g c set outer at_places first (suc r) (pc + 3) body (slice_set regs r (Some a.v)) a.after few es
    (all_held_set p at_places regs first r (Some a.v) above held) (omega arith) (omega (arith, length-set regs r (Some a.v))) (All-tail (StmtStands p) (Assign site target e) body all)
    (has_back c.code pc code (statements_code c.name first (suc r) body) has))
  where
    with_left : ℕ → State
    with_left n = record st { left = n }

    code : List Instr
    code = assign_code c first r site target e

    more_code : List Instr
    more_code = statements_code c.name first (suc r) body

    rest : State → Out Note
    rest = run contract_mode c.name set at_places body

    step : ℕ → Out Note
    step k = perform contract_mode c.name set at_places (Assign site target e) (with_left k)

    Goal : ℕ → Out Note → Type 0
    Goal n o = Follows g p.function.gives_int c (in_body c pc regs st.world) n (pc + suc (suc (suc (length more_code)))) o

    by_step : (k : ℕ) → Assigned g c code regs r (step k) (with_left k) ⊎ Undefined g c code regs (step k) (with_left k)
        → ((a : Assigned g c code regs r (step k) (with_left k)) → Follows g p.function.gives_int c (in_body c (pc + 3) (slice_set regs r (Some a.v)) a.after.world) a.after.left ((pc + 3) + length more_code) (rest a.after))
        → Goal (suc k) (then_do (step k) rest)
    by_step k (inl a) again =
        let same_place : (pc + 3) + length more_code ≡ pc + suc (suc (suc (length more_code))) = omega arith in
        let l : a.after.left ≡ k = a.left in
        let follow = subst (λ q. Follows g p.function.gives_int c (in_body c (pc + 3) (slice_set regs r (Some a.v)) a.after.world) a.after.left q (rest a.after)) same_place (again a) in
        subst (λ o. Goal (suc k) (then_do o rest)) (sym a.source)
        (after g p.function.gives_int c (in_body c pc regs st.world) (in_body c (pc + 3) (slice_set regs r (Some a.v)) a.after.world) 3 (suc k) a.after.left
        (pc + suc (suc (suc (length more_code)))) a.more a.notes (rest a.after)
        (line_next g c.name c.code c.frames code pc (now c regs st.world) (now c (slice_set regs r (Some a.v)) a.after.world) a.more (has_front c.code pc code more_code has) a.target)
        a.same (omega arith) follow)
    by_step k (inr u) again =
        subst (λ o. Goal (suc k) (then_do o rest)) (sym u.source)
        (record {
          count = 3;
          notes = u.more;
          by = line_ends g c.name c.code c.frames code pc (now c regs st.world) u.more (end.Undefined c.name) st.world (has_front c.code pc code more_code has) u.target;
          same = u.same;
        })

    by_left : (n : ℕ)
        → ((k : ℕ) → Assigned g c code regs r (step k) (with_left k) ⊎ Undefined g c code regs (step k) (with_left k))
        → ((k : ℕ) (a : Assigned g c code regs r (step k) (with_left k)) → Follows g p.function.gives_int c (in_body c (pc + 3) (slice_set regs r (Some a.v)) a.after.world) a.after.left ((pc + 3) + length more_code) (rest a.after))
        → Goal n (tick_at n st (λ t. then_do (perform contract_mode c.name set at_places (Assign site target e) t) rest))
    by_left zero one_step again = record { count = 0; notes = []; state = in_body c pc regs st.world; by = refl; same = refl; enough = omega arith }
    by_left (suc k) one_step again = by_step k (one_step k) (again k)
statements_follow p g c set outer at_places first r pc (ReturnStmt e ∷ body) regs st few es held above below all has =
    by_left st.left
  where
    memory : Memory
    memory = st.world.memory

    t' : Term
    t' = term_of (places.Body first) e

    plain : IsPlain t'
    plain = value_plain (places.Body first) e

    s : Now
    s = now c regs st.world

    more_code : List Instr
    more_code = statements_code c.name first (suc r) body

    rest : State → Out Note
    rest = run contract_mode c.name set at_places body

    below' : r < length regs
    below' = omega arith

    vs : SameInt (value (Body at_places) memory e) (plain_value regs memory t')
    vs = value_same p false (Body at_places) (places.Body first) regs memory e few (body_fits p at_places regs memory first held) (All-head (StmtStands p) (ReturnStmt e) body all).1

    with_left : ℕ → State
    with_left n = record st { left = n }

    Goal : ℕ → Out Note → Type 0
    Goal n o = Follows g p.function.gives_int c (in_body c pc regs st.world) n (pc + suc (suc (length more_code))) o

    step : ℕ → Option ℤ → Out Note
    step k o = with_some (end.Undefined c.name) st.world o (λ v. Returned [] (Some v) (with_left k))

    fits : (b : Bool) (v : ℤ) → b ≡ true → IsValue S32 v → ResultFits b (Some v)
    fits true v e int = int
    fits false v e int = cc

    by_value : (k : ℕ) (o : Option ℤ) → value (Body at_places) memory e ≡ o → Goal (suc k) (then_do (step k o) rest)
    by_value k None ev =
        record {
          count = 1;
          notes = [];
          by = line_ends g c.name c.code c.frames (Set r t' ∷ []) pc s [] (end.Undefined c.name) st.world (has.0, tt) (set_none g c.name r t' [] s plain (sym vs.same ∙ ev));
          same = refl;
        }
    by_value k (Some v) ev =
        let regs' = slice_set regs r (Some v) in
        let set_it = line_next g c.name c.code c.frames (Set r t' ∷ []) pc s (now c regs' st.world) [] (has.0, tt) (set_some g c.name r t' [] s v plain (sym vs.same ∙ ev)) in
        let next_place : pc + 1 ≡ suc pc = omega arith in (
          record {
            count = 1 + 1;
            notes = [];
            regs = regs';
            by =
                steps_join g 1 1 (in_body c pc regs st.world) (in_body c (suc pc) regs' st.world) [] (left_body (now c regs' st.world) (Some v) c.frames)
                (set_it ∙ ap (λ q. Going [] (in_body c q regs' st.world)) next_place)
                (one g (in_body c (suc pc) regs' st.world) (Return (Some (Register r))) (left_body (now c regs' st.world) (Some v) c.frames) has.1.0
                (ap (λ o. proceed g (in_body c (suc pc) regs' st.world) (defined c.name (joined o) (now c regs' st.world) (λ x. LeavesWith (Some x) (now c regs' st.world)))) (get-set-same regs r (Some v) below')));
            same = refl;
          },
          fits p.function.gives_int v (All-head (StmtStands p) (ReturnStmt e) body all).0 (subst HasInt ev vs.int),
        )

    by_left : (n : ℕ) → Goal n (tick_at n st (λ t. then_do (perform contract_mode c.name set at_places (ReturnStmt e) t) rest))
    by_left zero = record { count = 0; notes = []; state = in_body c pc regs st.world; by = refl; same = refl; enough = omega arith }
    by_left (suc k) = subst (λ o. Goal (suc k) (then_do (step k o) rest)) (refl) (by_value k (value (Body at_places) memory e) refl)
