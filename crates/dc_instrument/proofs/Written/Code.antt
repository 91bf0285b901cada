-- The instructions of both bodies may stand in lines, and keep the rules for instructions.
use Rattle.std.proofs.Common.{◌≡◌, ℕ, zero, suc, ◌+◌, ◌^◌, ◌≤◌, ◌<◌, Bool, true, false, List, [], ◌∷◌, ◌++◌, length, Option, None, Some, refl, sym, ap, ◌∙◌, arith, pos}
use Rattle.std.specs.Prelude.{All, codes, nat_lt, not, ◌==◌, ◌||◌, if◌then◌else◌}
use Rattle.std.specs.List.{list_all, AllByRecursion}
use Rattle.std.proofs.lemmas.Bool.Decides.{nat_tests}
use Rattle.std.proofs.lemmas.List.Elements.{All-head, All-tail}
use Rattle.dc_num.specs.declared.kind.NumKind.{NumKind}
use Rattle.dc_num.specs.declared.kind.NumKind.TheVariants.{S32}
use Rattle.dc_core.specs.Assertion.{assigns_name, postcondition_name}
use Rattle.dc_core.specs.Program.{Expr, Stmt, Assign, Function, Program}
use Rattle.dc_core.specs.Program as program
use Rattle.dc_core.specs.Sound.{Stands, IsTarget, StmtStands, IsSound}
use Rattle.dc_core.specs.Term.{Term, Constant, Register}
use Rattle.dc_text.specs.Words.{same, is_word}
use Rattle.dc_goto.specs.Lines.{BodyHead, head_of, IsTerm, IsInstr}
use Rattle.dc_goto.specs.Program.{Instr, Set, Store, Init, Local, Covers, Call, Return, Trap, Statics, OutsideObjects, Draw, Seen, Require, Push, Range, Check, Pop, Sig}
use Rattle.dc_goto.specs.Shape as shape
use Rattle.dc_goto.specs.Shape.{may_mean, may_act, may_call, may_return, may_take, is_some, leaves}
use Rattle.dc_goto.specs.declared.operands.Bytes.TheVariants.{Zero}
use Rattle.dc_goto.proofs.Digits.{both_true}
use Rattle.dc_instrument.specs.Lowering.{term_of, place_term, int_len, parameters_code, statements_code, last_instr, function_body, draws_code, argument_terms, group_code, require_code, ranges_code, checks_code, result_value, clauses_of, call_code, start_body, ints, result_kind, sig_of}
use Rattle.dc_instrument.specs.Writable.{IsLow, IsLowStmt, IsWritable}
use Rattle.dc_instrument.specs.declared.places.Places.{Places}
use Rattle.dc_instrument.specs.declared.places.Places.TheVariants as places
use Rattle.dc_instrument.proofs.Written.Names.{assigns_check, postcondition_check, sig_here, sig_other, differ_back}
use Rattle.dc_instrument.proofs.Written.Terms.{below, MayStand, Fits, body_fits, clauses_fit, register_stands, one_stands, len_stands, term_stands, place_stands, target_stands}

-- Lists -------------------------------------------------------------------------------------------------------------

pub all_append : {A : Type 0} (P : A → Type 0) (xs ys : List A) → AllByRecursion P xs → AllByRecursion P ys → AllByRecursion P (xs ++ ys)
all_append P [] ys h k = k
all_append P (x ∷ xs) ys h k = (h.0, all_append P xs ys h.1 k)

-- the last instruction leaves
abbrev pub EndsLeaving : List Instr → Type 0
EndsLeaving [] = ⊥
EndsLeaving (i ∷ []) = leaves i ≡ true
EndsLeaving (i ∷ next ∷ code) = EndsLeaving (next ∷ code)

ends_cons : (i : Instr) (code : List Instr) → EndsLeaving code → EndsLeaving (i ∷ code)
ends_cons i [] h = absurd h
ends_cons i (next ∷ code) h = h

pub ends_append : (before code : List Instr) → EndsLeaving code → EndsLeaving (before ++ code)
ends_append [] code h = h
ends_append (i ∷ before) code h = ends_cons i (before ++ code) (ends_append before code h)

-- Instructions ------------------------------------------------------------------------------------------------------

-- an instruction may stand in a line, and in the body, however many instructions that has
pub record MayAct (functions : List Sig) (objects : ℕ) (head : BodyHead) (i : Instr) : Type 0 where
  pub written : IsInstr i
  pub acts : (count : ℕ) → may_act functions objects head count i ≡ true

abbrev pub AllAct : List Sig → ℕ → BodyHead → List Instr → Type 0
AllAct functions objects head code = AllByRecursion (MayAct functions objects head) code

pub plain_act : (functions : List Sig) (objects : ℕ) (head : BodyHead) (i : Instr) → IsInstr i → ((count : ℕ) → may_act functions objects head count i ≡ true) → MayAct functions objects head i
plain_act functions objects head i w a = record { written = w; acts = a }

module _ (functions : List Sig) (objects : ℕ) (head : BodyHead) where
  set_acts : (r : ℕ) (e : Term) → r < head.regs → head.regs < 2 ^ 64 → MayStand objects head.regs e → MayAct functions objects head (Set r e)
  set_acts r e room small h =
      plain_act functions objects head (Set r e) (omega arith, h.written) (λ count. both_true (nat_lt r head.regs) (may_mean objects head.regs e) (below r head.regs room) h.means)

  store_acts : (kind : NumKind) (a e : Term) → MayStand objects head.regs a → MayStand objects head.regs e → MayAct functions objects head (Store kind a e)
  store_acts kind a e h k =
      plain_act functions objects head (Store kind a e) (h.written, k.written) (λ count. both_true (may_mean objects head.regs a) (may_mean objects head.regs e) h.means k.means)

  init_acts : (kind : NumKind) (a e : Term) → MayStand objects head.regs a → MayStand objects head.regs e → MayAct functions objects head (Init kind a e)
  init_acts kind a e h k =
      plain_act functions objects head (Init kind a e) (h.written, k.written) (λ count. both_true (may_mean objects head.regs a) (may_mean objects head.regs e) h.means k.means)

  local_acts : (r : ℕ) → r < head.regs → head.regs < 2 ^ 64 → MayAct functions objects head (Local r 4 Zero)
  local_acts r room small =
      plain_act functions objects head (Local r 4 Zero) (omega arith, omega arith) (λ count. both_true (nat_lt r head.regs) true (below r head.regs room) refl)

  covers_acts : (name : List ℕ) (site : ℕ) (a : Term) → is_word name ≡ true → site < 10 ^ 64 → MayStand objects head.regs a → MayAct functions objects head (Covers (assigns_name name site) a int_len)
  covers_acts name site a w small h =
      let n = len_stands objects head.regs in
      plain_act functions objects head (Covers (assigns_name name site) a int_len) (assigns_check name site w small, h.written, n.written)
      (λ count. both_true (may_mean objects head.regs a) (may_mean objects head.regs int_len) h.means n.means)

  return_acts : (e : Term) → may_return (shape.sig_of functions head.name) (Some e) ≡ true → MayStand objects head.regs e → MayAct functions objects head (Return (Some e))
  return_acts e r h =
      plain_act functions objects head (Return (Some e)) h.written (λ count. both_true (may_return (shape.sig_of functions head.name) (Some e)) (may_mean objects head.regs e) r h.means)

  return_none_acts : may_return (shape.sig_of functions head.name) None ≡ true → MayAct functions objects head (Return None)
  return_none_acts r = plain_act functions objects head (Return None) tt (λ count. both_true (may_return (shape.sig_of functions head.name) None) true r refl)

  range_acts : (k : ℕ) (a : Term) → k < 2 ^ 64 → MayStand objects head.regs a → MayAct functions objects head (Range k (Constant S32 (pos 1)) a int_len)
  range_acts k a small h =
      let one = one_stands objects head.regs in
      let n = len_stands objects head.regs in
      plain_act functions objects head (Range k (Constant S32 (pos 1)) a int_len) (small, one.written, h.written, n.written) (λ count. rw h.means refl)

  check_acts : (name : List ℕ) (k : ℕ) (e : Term) → is_word name ≡ true → k < 10 ^ 64 → MayStand objects head.regs e → MayAct functions objects head (Check (postcondition_name name k) e)
  check_acts name k e w small h = plain_act functions objects head (Check (postcondition_name name k) e) (postcondition_check name k w small, h.written) (λ count. h.means)

  -- Parameters' objects

  parameters_act : (first i n : ℕ) → first + i + n ≤ head.regs → i + n ≤ head.regs → head.regs < 2 ^ 64 → AllAct functions objects head (parameters_code first i n)
  parameters_act first i zero high low small = tt
  parameters_act first i (suc n) high low small =
      let r = register_stands objects head.regs (first + i) (omega arith) small in
      let v = register_stands objects head.regs i (omega arith) small in (
        local_acts (first + i) (omega arith) small,
        (init_acts S32 (Register (first + i)) (Register i) r v, parameters_act first (suc i) n (omega arith) (omega arith) small),
      )

  -- The arguments of the call

  arguments_written : (i n : ℕ) → i + n ≤ head.regs → head.regs < 2 ^ 64 → AllByRecursion IsTerm (argument_terms i n)
  arguments_written i zero room small = tt
  arguments_written i (suc n) room small =
      let r = register_stands objects head.regs i (omega arith) small in (r.written, arguments_written (suc i) n (omega arith) small)

  arguments_mean : (i n : ℕ) → i + n ≤ head.regs → head.regs < 2 ^ 64 → list_all (may_mean objects head.regs) (argument_terms i n) ≡ true
  arguments_mean i zero room small = refl
  arguments_mean i (suc n) room small =
      let r = register_stands objects head.regs i (omega arith) small in
      both_true (may_mean objects head.regs (Register i)) (list_all (may_mean objects head.regs) (argument_terms (suc i) n)) r.means (arguments_mean (suc i) n (omega arith) small)

  draws_act : (i n : ℕ) → i + n ≤ head.regs → head.regs < 2 ^ 64 → AllAct functions objects head (draws_code i n)
  draws_act i zero room small = tt
  draws_act i (suc n) room small =
      (plain_act functions objects head (Draw i S32) (omega arith) (λ count. below i head.regs (omega arith)), draws_act (suc i) n (omega arith) small)

  group_acts : (tests : List Instr) → AllAct functions objects head tests → AllAct functions objects head (group_code tests)
  group_acts [] h = tt
  group_acts (test ∷ tests) h = (plain_act functions objects head Seen tt (λ count. refl), h)

pub arguments_count : (i n : ℕ) → length (argument_terms i n) ≡ n
arguments_count i zero = refl
arguments_count i (suc n) = ap suc (arguments_count (suc i) n)

equal : (a b : ℕ) → a ≡ b → (a == b) ≡ true
equal a b e = grind (arith, nat_tests)

pub ints_count : (n : ℕ) → length (ints n) ≡ n
ints_count zero = refl
ints_count (suc n) = ap suc (ints_count n)

-- The function's body -----------------------------------------------------------------------------------------------

module _ (p : Program) (few : length p.statics ≤ 32766) (word : is_word p.function.name ≡ true) (functions : List Sig) (head : BodyHead) (small : head.regs < 2 ^ 62) where
  abbrev objects : ℕ
  objects = suc (length p.statics)

  statements_act : (first register : ℕ) (body : List Stmt) → first + p.function.params ≤ head.regs → register + length body ≤ head.regs
      → (p.function.gives_int ≡ true → (e : Term) → may_return (shape.sig_of functions head.name) (Some e) ≡ true)
      → All (StmtStands p) body → AllByRecursion IsLowStmt body → AllAct functions objects head (statements_code p.function.name first register body)
  statements_act first register [] room more returns all low = tt
  statements_act first register (Assign site place value ∷ body) room more returns all low =
      let s = All-head (StmtStands p) (Assign site place value) body all in
      let l = low.0 in
      let v = term_stands p false (places.Body first) head.regs value few (body_fits p first head.regs room (omega arith)) s.1 l.1 in
      let a = place_stands p first head.regs place few room (omega arith) s.0 in
      let r = register_stands objects head.regs register (omega arith) (omega arith) in (
        set_acts functions objects head register (term_of (places.Body first) value) (omega arith) (omega arith) v,
        (
          covers_acts functions objects head p.function.name site (place_term (places.Body first) place) word (omega (arith, l.0)) a,
          (
            store_acts functions objects head S32 (place_term (places.Body first) place) (Register register) a r,
            statements_act first (suc register) body room (omega arith) returns (All-tail (StmtStands p) (Assign site place value) body all) low.1,
          ),
        ),
      )
  statements_act first register (program.Return value ∷ body) room more returns all low =
      let s = All-head (StmtStands p) (program.Return value) body all in
      let v = term_stands p false (places.Body first) head.regs value few (body_fits p first head.regs room (omega arith)) s.1 low.0 in
      let r = register_stands objects head.regs register (omega arith) (omega arith) in (
        set_acts functions objects head register (term_of (places.Body first) value) (omega arith) (omega arith) v,
        (
          return_acts functions objects head (Register register) (returns s.0 (Register register)) r,
          statements_act first (suc register) body room (omega arith) returns (All-tail (StmtStands p) (program.Return value) body all) low.1,
        ),
      )

  require_acts : (at : Places) (es : List Expr) → Fits p false at head.regs → All (Stands p false) es → AllByRecursion IsLow es → AllAct functions objects head (require_code at es)
  require_acts at [] f all low = tt
  require_acts at (e ∷ es) f all low =
      let t = term_stands p false at head.regs e few f (All-head (Stands p false) e es all) low.0 in
      (plain_act functions objects head (Require (term_of at e)) t.written (λ count. t.means), require_acts at es f (All-tail (Stands p false) e es all) low.1)

  ranges_act : (at : Places) (k : ℕ) (targets : List Expr) → k + length targets < 2 ^ 64 → All (IsTarget p) targets → AllAct functions objects head (ranges_code at k targets)
  ranges_act at k [] room all = tt
  ranges_act at k (target ∷ targets) room all =
      let t = target_stands p at head.regs target few (All-head (IsTarget p) target targets all) in
      (range_acts functions objects head k (place_term at target) (omega arith) t, ranges_act at (suc k) targets (omega arith) (All-tail (IsTarget p) target targets all))

  checks_act : (at : Places) (k : ℕ) (es : List Expr) → k + length es < 2 ^ 64 → Fits p p.function.gives_int at head.regs → All (Stands p p.function.gives_int) es → AllByRecursion IsLow es
      → AllAct functions objects head (checks_code p.function.name at k es)
  checks_act at k [] room f all low = tt
  checks_act at k (e ∷ es) room f all low =
      let t = term_stands p p.function.gives_int at head.regs e few f (All-head (Stands p p.function.gives_int) e es all) low.0 in (
        check_acts functions objects head p.function.name k (term_of at e) word (omega arith) t,
        checks_act at (suc k) es (omega arith) f (All-tail (Stands p p.function.gives_int) e es all) low.1,
      )

-- Both bodies -------------------------------------------------------------------------------------------------------

module _ (p : Program) (sound : IsSound p) (w : IsWritable p) where
  abbrev pub f : Function
  f = p.function

  abbrev pub all_objects : ℕ
  all_objects = suc (length p.statics)

  abbrev pub sigs : List Sig
  sigs = sig_of f ∷ []

  -- the function's body

  abbrev pub function_head : BodyHead
  function_head = head_of (function_body f)

  pub function_small : function_head.regs < 2 ^ 62
  function_small = let a = w.few_params in let b = w.few_statements in omega arith

  value_returned : (b : Bool) → b ≡ true → (e : Term) → may_return (Some (record { name = f.name; result = result_kind b; params = ints f.params })) (Some e) ≡ true
  value_returned true h e = refl
  value_returned false h e = cc

  returns_value : f.gives_int ≡ true → (e : Term) → may_return (shape.sig_of sigs f.name) (Some e) ≡ true
  returns_value h e = ap (λ o. may_return o (Some e)) (sig_here (sig_of f)) ∙ value_returned f.gives_int h e

  last_acts : (b : Bool) → (b ≡ false → may_return (shape.sig_of sigs f.name) None ≡ true) → AllAct sigs all_objects function_head (last_instr b ∷ [])
  last_acts true h = (plain_act sigs all_objects function_head Trap tt (λ count. refl), tt)
  last_acts false h = (return_none_acts sigs all_objects function_head (h refl), tt)

  none_returned : (b : Bool) → b ≡ false → may_return (Some (record { name = f.name; result = result_kind b; params = ints f.params })) None ≡ true
  none_returned true h = cc
  none_returned false h = refl

  returns_none : f.gives_int ≡ false → may_return (shape.sig_of sigs f.name) None ≡ true
  returns_none h = ap (λ o. may_return o None) (sig_here (sig_of f)) ∙ none_returned f.gives_int h

  pub function_acts : AllAct sigs all_objects function_head (function_body f).code
  function_acts =
      let statements = statements_code f.name f.params (f.params + f.params) f.body in
      let small = function_small in
      all_append (MayAct sigs all_objects function_head) (parameters_code f.params 0 f.params) (statements ++ last_instr f.gives_int ∷ [])
      (parameters_act sigs all_objects function_head f.params 0 f.params (omega arith) (omega arith) (omega arith))
      (all_append (MayAct sigs all_objects function_head) statements (last_instr f.gives_int ∷ [])
      (statements_act p sound.few w.name sigs function_head small f.params (f.params + f.params) f.body (omega arith) (omega arith) returns_value sound.body w.low_body)
      (last_acts f.gives_int returns_none))

  last_leaves : (b : Bool) → leaves (last_instr b) ≡ true
  last_leaves true = refl
  last_leaves false = refl

  pub function_ends : EndsLeaving (function_body f).code
  function_ends =
      let statements = statements_code f.name f.params (f.params + f.params) f.body in
      ends_append (parameters_code f.params 0 f.params) (statements ++ last_instr f.gives_int ∷ []) (ends_append statements (last_instr f.gives_int ∷ []) (last_leaves f.gives_int))

  -- the start

  abbrev pub start_head : BodyHead
  start_head = head_of (start_body f)

  start_most : (b : Bool) → f.params + (if b then 1 else 0) ≤ f.params + 1
  start_most true = omega arith
  start_most false = omega arith

  start_least : (b : Bool) → f.params ≤ f.params + (if b then 1 else 0)
  start_least true = omega arith
  start_least false = omega arith

  start_result : (b : Bool) → b ≡ true → f.params < f.params + (if b then 1 else 0)
  start_result true e = omega arith
  start_result false e = cc

  pub start_small : start_head.regs < 2 ^ 62
  start_small = let a = w.few_params in let b = start_most f.gives_int in omega arith

  start_room : f.params ≤ start_head.regs
  start_room = start_least f.gives_int

  pub start_is_other : same (codes ".start") f.name ≡ false
  start_is_other = differ_back f.name (codes ".start") sound.name

  -- the call

  gives_register : (b : Bool) → b ≡ true → (is_some (result_kind b) || false) ≡ true
  gives_register true e = refl
  gives_register false e = cc

  gives_either : (b : Bool) → (is_some (result_kind b) || true) ≡ true
  gives_either true = refl
  gives_either false = refl

  -- the function may be called for that result
  called : (r : Option ℕ) → (is_some (result_kind f.gives_int) || not (is_some r)) ≡ true → may_call (shape.sig_of sigs f.name) r (length (argument_terms 0 f.params)) ≡ true
  called r given =
      ap (λ o. may_call o r (length (argument_terms 0 f.params))) (sig_here (sig_of f))
      ∙ both_true (length (argument_terms 0 f.params) == length (ints f.params)) (is_some (result_kind f.gives_int) || not (is_some r)) same_count given
    where
      same_count : (length (argument_terms 0 f.params) == length (ints f.params)) ≡ true
      same_count = equal (length (argument_terms 0 f.params)) (length (ints f.params)) (arguments_count 0 f.params ∙ sym (ints_count f.params))

  call_acts : (b : Bool) → f.gives_int ≡ b
      → MayAct sigs all_objects start_head (Call (if b then Some f.params else None) f.name (argument_terms 0 f.params))
  call_acts true e =
      let room = start_room in
      let small = start_small in
      let few = w.few_params in
      let call = called (Some f.params) (gives_register f.gives_int e) in
      let register = below f.params start_head.regs (start_result f.gives_int e) in
      let means = arguments_mean sigs all_objects start_head 0 f.params (omega arith) (omega arith) in
      plain_act sigs all_objects start_head (Call (Some f.params) f.name (argument_terms 0 f.params))
      (omega arith, w.name, arguments_written sigs all_objects start_head 0 f.params (omega arith) (omega arith))
      (λ count. rw (call, register, means) refl)
  call_acts false e =
      let room = start_room in
      let small = start_small in
      let call = called None (gives_either f.gives_int) in
      let means = arguments_mean sigs all_objects start_head 0 f.params (omega arith) (omega arith) in
      plain_act sigs all_objects start_head (Call None f.name (argument_terms 0 f.params))
      (tt, w.name, arguments_written sigs all_objects start_head 0 f.params (omega arith) (omega arith))
      (λ count. rw (call, means) refl)

  result_acts : (b : Bool) → f.gives_int ≡ b → MayAct sigs all_objects start_head (Return (if b then Some (Register f.params) else None))
  result_acts true e =
      let small = start_small in
      return_acts sigs all_objects start_head (Register f.params) (ap (λ o. may_return o (Some (Register f.params))) (sig_other (sig_of f) (codes ".start") start_is_other))
      (register_stands all_objects start_head.regs f.params (start_result f.gives_int e) (omega arith))
  result_acts false e =
      return_none_acts sigs all_objects start_head (ap (λ o. may_return o None) (sig_other (sig_of f) (codes ".start") start_is_other))

  pub start_acts : AllAct sigs all_objects start_head (start_body f).code
  start_acts =
      let small = start_small in
      let room = start_room in
      let few_targets = w.few_targets in
      let few_ensures = w.few_ensures in
      let a = MayAct sigs all_objects start_head in
      let at = clauses_of f in
      let draws = draws_code 0 f.params in
      let tests = group_code (require_code at f.contract.requires_) in
      let ranges = ranges_code at 1 f.contract.assigns in
      let checks = group_code (checks_code f.name at 1 f.contract.ensures_) in
      let end = Pop ∷ Return (result_value f) ∷ [] in (
        plain_act sigs all_objects start_head Statics tt (λ count. refl),
        (
          plain_act sigs all_objects start_head OutsideObjects tt (λ count. refl),
          all_append (MayAct sigs all_objects start_head) draws (tests ++ (Push ∷ (ranges ++ (call_code f ++ (checks ++ end)))))
              (draws_act sigs all_objects start_head 0 f.params (omega arith) (omega arith))
              (all_append (MayAct sigs all_objects start_head) tests (Push ∷ (ranges ++ (call_code f ++ (checks ++ end))))
              (group_acts sigs all_objects start_head (require_code at f.contract.requires_)
              (require_acts p sound.few w.name sigs start_head small at f.contract.requires_ (clauses_fit p false start_head.regs room (λ e. absurd (cc)) (omega arith)) sound.requires_ w.low_requires)) (
                plain_act sigs all_objects start_head Push tt (λ count. refl),
                all_append (MayAct sigs all_objects start_head) ranges (call_code f ++ (checks ++ end))
                    (ranges_act p sound.few w.name sigs start_head small at 1 f.contract.assigns (omega arith) sound.assigns) (
                      call_acts f.gives_int refl,
                      all_append (MayAct sigs all_objects start_head) checks end
                          (group_acts sigs all_objects start_head (checks_code f.name at 1 f.contract.ensures_)
                          (checks_act p sound.few w.name sigs start_head small at 1 f.contract.ensures_ (omega arith) (clauses_fit p f.gives_int start_head.regs room (start_result f.gives_int) (omega arith)) sound.ensures_ w.low_ensures))
                          (plain_act sigs all_objects start_head Pop tt (λ count. refl), (result_acts f.gives_int refl, tt)),
                    ),
              )),
        ),
      )

  pub start_ends : EndsLeaving (start_body f).code
  start_ends =
      let at = clauses_of f in
      let draws = draws_code 0 f.params in
      let tests = group_code (require_code at f.contract.requires_) in
      let ranges = ranges_code at 1 f.contract.assigns in
      let checks = group_code (checks_code f.name at 1 f.contract.ensures_) in
      let end = Pop ∷ Return (result_value f) ∷ [] in
      ends_append (Statics ∷ OutsideObjects ∷ draws) (tests ++ (Push ∷ (ranges ++ (call_code f ++ (checks ++ end)))))
      (ends_append tests (Push ∷ (ranges ++ (call_code f ++ (checks ++ end))))
      (ends_append (Push ∷ ranges) (call_code f ++ (checks ++ end))
      (ends_append (call_code f) (checks ++ end) (ends_append checks end refl))))
