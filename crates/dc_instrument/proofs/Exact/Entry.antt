-- The start draws what the entry draws, blocks where it blocks, and makes its write set.
use Rattle.std.proofs.Common.{◌≡◌, ℕ, zero, suc, ◌+◌, ◌%◌, ◌^◌, ◌≤◌, Bool, true, false, List, [], ◌∷◌, ◌++◌, length, Option, Some, None, refl, ap, sym, ◌∙◌, subst, arith, ℤ, pos, append_assoc, append-nil, length-append}
use Rattle.std.specs.Prelude.{slice_get, slice_set, replicate, map, All, ◌&&◌}
use Rattle.std.specs.Option.{option_map}
use Rattle.std.proofs.lemmas.List.Elements.{All-head, All-tail}
use Rattle.dc_num.specs.declared.kind.NumKind.TheVariants.{S32}
use Rattle.dc_num.specs.Kinds.{IsValue}
use Rattle.dc_num.specs.Conversions.{converted}
use Rattle.dc_core.specs.Assertion.{postcondition_name}
use Rattle.dc_core.specs.Event.{Event, End}
use Rattle.dc_core.specs.Event as end
use Rattle.dc_core.specs.Choices.{Drawn, Drew, Dry, after, bind, draw_value, give}
use Rattle.dc_memory.specs.Objects.{Memory}
use Rattle.dc_memory.specs.Places.{start_of}
use Rattle.dc_core.specs.Entry.{draw_arguments}
use Rattle.dc_core.specs.Program as program
use Rattle.dc_core.specs.Program.{Expr, Program}
use Rattle.dc_core.specs.Term.{Constant}
use Rattle.dc_core.specs.Value.{Scope, Clause, value, place, variable_place}
use Rattle.dc_core.specs.Contract.{holds, all_hold, WriteSet, with_ranges, denoted, ranges_of}
use Rattle.dc_core.specs.Sound.{Stands, IsTarget}
use Rattle.dc_core.specs.Run.{Note, Did, checked, tested}
use Rattle.dc_core.proofs.Numbers.{HasInt, IsValue-converted}
use Rattle.dc_goto.specs.Program.{Range, GotoProgram}
use Rattle.dc_goto.specs.Values.{Registers, joined}
use Rattle.dc_goto.specs.Acts.{Now, Next, Ends, act, drawn, required as required_then, with_register}
use Rattle.dc_goto.proofs.Notes.{fails}
use Rattle.dc_goto.proofs.Line.{line, before, then_next, before-nil}
use Rattle.dc_goto.proofs.Registers.{get-front, get-map, length-map, map-append, set-here, get-here}
use Rattle.dc_instrument.specs.Lowering.{term_of, place_term, int_len, draws_code, require_code, ranges_code, checks_code}
use Rattle.dc_instrument.specs.declared.places.Places.{Places}
use Rattle.dc_instrument.specs.declared.places.Places.TheVariants as places
use Rattle.dc_instrument.proofs.Exact.Plain.{check_acts, require_acts}
use Rattle.dc_instrument.proofs.Exact.Sets.{AreBare, plain_sets, ranged_same}
use Rattle.dc_instrument.proofs.Exact.Values.{Fits, value_plain, value_same, variable_pointer}
use Rattle.dc_instrument.proofs.Exact.Parameters.{AllInts}

-- Clauses -----------------------------------------------------------------------------------------------------------

-- the result's register holds the result, where it may be named
pub record ResultHeld (result : Option ℤ) (tail : Registers) : Type 0 where
  pub number : ℤ
  pub known : result ≡ Some number
  pub int : IsValue S32 number
  pub register : tail ≡ Some number ∷ []

int_at : (arguments : List ℤ) (k : ℕ) → AllInts arguments → HasInt (slice_get arguments k)
int_at [] k ints = tt
int_at (v ∷ arguments) zero ints = ints.0
int_at (v ∷ arguments) (suc k) ints = int_at arguments k ints.1

-- arguments and the result stand in their registers
pub clause_fits : (p : Program) (allowed : Bool) (arguments : List ℤ) (result : Option ℤ) (tail regs : Registers) (memory : Memory)
    → regs ≡ map Some arguments ++ tail → AllInts arguments → length arguments ≡ p.function.params → (allowed ≡ true → ResultHeld result tail)
    → Fits p allowed (Clause arguments result) (places.Clauses p.function.params) regs memory
clause_fits p allowed arguments result tail regs memory er ints el held =
    record {
      parameters = λ k lt.
          let m = length-map Some arguments in
          record {
            same = sym (ap (λ l. joined (slice_get l k)) er ∙ ap joined (get-front (map Some arguments) tail k (omega arith) ∙ get-map Some arguments k) ∙ read (slice_get arguments k));
            int = int_at arguments k ints;
          };
      result_is = λ e.
          let h = held e in
          let m = length-map Some arguments in
          record {
            same =
                h.known
                ∙ sym (ap (λ l. joined (slice_get l p.function.params)) er
                ∙ ap (λ t. joined (slice_get (map Some arguments ++ t) p.function.params)) h.register
                ∙ ap joined (get-here (map Some arguments) (Some h.number) [] p.function.params (m ∙ el)));
            int = subst HasInt (sym h.known) h.int;
          };
    }
  where
    read : (o : Option ℤ) → joined (option_map Some o) ≡ o
    read None = refl
    read (Some v) = refl

-- the requires block the run where one doesn't hold
pub requires_line : (p : Program) (g : GotoProgram) (name : List ℕ) (scope : Scope) (at : Places) (es : List Expr) (s : Now)
    → length p.statics ≤ 32766 → Fits p false scope at s.regs s.world.memory → All (Stands p false) es
    → line g name (require_code at es) s ≡ required_then (all_hold scope s.world.memory es) s
requires_line p g name scope at [] s few fits all = refl
requires_line p g name scope at (e ∷ es) s few fits all =
    let v = value_same p false scope at s.regs s.world.memory e few fits (All-head (Stands p false) e es all) in
    ap (λ t. then_next t (line g name (require_code at es))) (require_acts g name s (term_of at e) (value_plain at e) ∙ ap (λ o. required_then (holds o) s) (sym v.same))
    ∙ by (holds (value scope s.world.memory e)) (requires_line p g name scope at es s few fits (All-tail (Stands p false) e es all))
  where
    by : (b : Bool) → line g name (require_code at es) s ≡ required_then (all_hold scope s.world.memory es) s
        → then_next (required_then b s) (line g name (require_code at es)) ≡ required_then (b && all_hold scope s.world.memory es) s
    by true h = before-nil (line g name (require_code at es) s) ∙ h
    by false h = refl

-- the ensures are tested
pub checks_line : (p : Program) (allowed : Bool) (g : GotoProgram) (name function : List ℕ) (scope : Scope) (at : Places) (k : ℕ) (es : List Expr) (s : Now)
    → length p.statics ≤ 32766 → Fits p allowed scope at s.regs s.world.memory → All (Stands p allowed) es
    → line g name (checks_code function at k es) s ≡ Next (tested function k scope s.world.memory es) s
checks_line p allowed g name function scope at k [] s few fits all = refl
checks_line p allowed g name function scope at k (e ∷ es) s few fits all =
    let v = value_same p allowed scope at s.regs s.world.memory e few fits (All-head (Stands p allowed) e es all) in
    ap (λ t. then_next t (line g name (checks_code function at (suc k) es)))
    (check_acts g name s (postcondition_name function k) (term_of at e) (value_plain at e) ∙ ap (λ o. Next (checked (postcondition_name function k) (holds o)) s) (sym v.same))
    ∙ ap (before (checked (postcondition_name function k) (holds (value scope s.world.memory e)))) (checks_line p allowed g name function scope at (suc k) es s few fits (All-tail (Stands p allowed) e es all))

-- the range of a target is added to the set
range_act : (p : Program) (g : GotoProgram) (name : List ℕ) (scope : Scope) (at : Places) (k : ℕ) (target : Expr) (set : WriteSet) (outer : List WriteSet) (s : Now)
    → length p.statics ≤ 32766 → IsTarget p target → AreBare s.world.memory → s.sets ≡ plain_sets (set ∷ outer)
    → act g name (Range k (Constant S32 (pos 1)) (place_term at target) int_len) s
    ≡ Next [] (record s { sets = plain_sets (with_ranges (denoted k s.world.memory true (place scope target) (Some 4)) set ∷ outer) })
range_act p g name scope at k (program.Literal z) set outer s few is bare e = absurd is
range_act p g name scope at k (program.Variable j) set outer s few is bare e =
    ap (λ sets. Next [] (record s { sets = sets }))
    (ranged_same set outer s k (pos (start_of (suc (suc j)))) (variable_place j) e (variable_pointer (length p.statics) j few is) bare)
range_act p g name scope at k (program.Parameter j) set outer s few is bare e = absurd is
range_act p g name scope at k program.ReturnValue set outer s few is bare e = absurd is
range_act p g name scope at k (program.Binary op a b) set outer s few is bare e = absurd is

-- the ranges of the targets are added to the set
pub ranges_line : (p : Program) (g : GotoProgram) (name : List ℕ) (scope : Scope) (at : Places) (k : ℕ) (targets : List Expr) (set : WriteSet) (outer : List WriteSet) (s : Now)
    → length p.statics ≤ 32766 → All (IsTarget p) targets → AreBare s.world.memory → s.sets ≡ plain_sets (set ∷ outer)
    → line g name (ranges_code at k targets) s ≡ Next [] (record s { sets = plain_sets (with_ranges (ranges_of k scope s.world.memory targets) set ∷ outer) })
ranges_line p g name scope at k [] set outer s few all bare e =
    ap (λ sets. Next [] (record s { sets = sets })) (e ∙ ap (λ rs. plain_sets (record set { ranges = rs } ∷ outer)) (sym (append-nil set.ranges)))
ranges_line p g name scope at k (target ∷ targets) set outer s few all bare e =
    let memory = s.world.memory in
    let here = denoted k memory true (place scope target) (Some 4) in
    let more = with_ranges here set in
    let with_more : Now = record s { sets = plain_sets (more ∷ outer) } in
    ap (λ t. then_next t (line g name (ranges_code at (suc k) targets))) (range_act p g name scope at k target set outer s few (All-head (IsTarget p) target targets all) bare e)
    ∙ before-nil (line g name (ranges_code at (suc k) targets) with_more)
    ∙ ranges_line p g name scope at (suc k) targets more outer with_more few (All-tail (IsTarget p) target targets all) bare refl
    ∙ ap (λ rs. Next [] (record s { sets = plain_sets (record set { ranges = rs } ∷ outer) })) (append_assoc set.ranges here (ranges_of (suc k) scope memory targets))

-- The draws -----------------------------------------------------------------------------------------------------------

-- arguments are drawn on both sides
abbrev pub DrawsFollow : GotoProgram → List ℕ → ℕ → ℕ → List ℤ → ℕ → Now → Drawn (List ℤ) → Type 0
DrawsFollow g name i n done r s (Drew arguments rest events) =
    record {
      notes : List Note;
      by : line g name (draws_code i n) s ≡ Next notes (record s { regs = map Some (done ++ arguments) ++ replicate r (Some (pos 0)); world = record s.world { choices = rest } });
      same : fails notes ≡ [];
      ints : AllInts arguments;
      count : length arguments ≡ n;
    }
DrawsFollow g name i n done r s (Dry events) =
    record {
      notes : List Note;
      by : line g name (draws_code i n) s ≡ Ends notes end.ChoicesEnded (record s.world { choices = [] });
      same : fails notes ≡ [];
    }

draws_registers : (done : List ℤ) (v : ℤ) (n i : ℕ) → i ≡ length done
    → slice_set (map Some done ++ replicate (suc n) (Some (pos 0))) i (Some v) ≡ map Some (done ++ v ∷ []) ++ replicate n (Some (pos 0))
draws_registers done v n i e =
    let m = length-map Some done in
    set-here (map Some done) (Some (pos 0)) (Some v) (replicate n (Some (pos 0))) i (m ∙ sym e)
    ∙ sym (append_assoc (map Some done) (Some v ∷ []) (replicate n (Some (pos 0))))
    ∙ ap (λ l. l ++ replicate n (Some (pos 0))) (sym (map-append Some done (v ∷ [])))

pub draws_follow : (g : GotoProgram) (name : List ℕ) (i n : ℕ) (done : List ℤ) (r : ℕ) (choices : List ℕ) (s : Now)
    → i ≡ length done → s.world.choices ≡ choices → s.regs ≡ map Some done ++ replicate (n + r) (Some (pos 0))
    → DrawsFollow g name i n done r s (draw_arguments n choices)
draws_follow g name i zero done r choices s ei ec er =
    let n : zero + r ≡ r = omega arith in
    record {
      notes = [];
      by =
          ap (λ l. Next [] (record s { regs = l })) (er ∙ ap (λ k. map Some done ++ replicate k (Some (pos 0))) n ∙ ap (λ l. map Some l ++ replicate r (Some (pos 0))) (sym (append-nil done)))
          ∙ ap (λ cs. Next [] (record s { regs = map Some (done ++ []) ++ replicate r (Some (pos 0)); world = record s.world { choices = cs } })) ec;
      same = refl;
      ints = tt;
      count = refl;
    }
draws_follow g name i (suc n) done r [] s ei ec er =
    record {
      notes = [];
      by = ap (λ cs. then_next (drawn (draw_value S32 cs) s (λ v t. Next [] (with_register i (Some v) t))) (line g name (draws_code (suc i) n))) ec;
      same = refl;
    }
draws_follow g name i (suc n) done r (number ∷ choices) s ei ec er =
    by (draw_arguments n choices) (draws_follow g name (suc i) n (done ++ v ∷ []) r choices s1 (omega (arith, length-append done (v ∷ []))) refl refl)
  where
    v : ℤ
    v = converted S32 (pos (number % 2 ^ 32))

    s1 : Now
    s1 = record s { regs = map Some (done ++ v ∷ []) ++ replicate (n + r) (Some (pos 0)); world = record s.world { choices = choices } }

    told : List Note
    told = Did (end.Draw number) ∷ []

    stepped : line g name (draws_code i (suc n)) s ≡ before told (line g name (draws_code (suc i) n) s1)
    stepped =
        let room : suc n + r ≡ suc (n + r) = omega arith in
        ap (λ cs. then_next (drawn (draw_value S32 cs) s (λ v t. Next [] (with_register i (Some v) t))) (line g name (draws_code (suc i) n))) ec
        ∙ ap (λ l. before told (line g name (draws_code (suc i) n) (record s { regs = l; world = record s.world { choices = choices } })))
        (ap (λ l. slice_set l i (Some v)) (er ∙ ap (λ k. map Some done ++ replicate k (Some (pos 0))) room) ∙ draws_registers done v (n + r) i ei)

    by : (d : Drawn (List ℤ)) → DrawsFollow g name (suc i) n (done ++ v ∷ []) r s1 d → DrawsFollow g name i (suc n) done r s (after (end.Draw number ∷ []) (bind d (λ values. give (v ∷ values))))
    by (Drew arguments rest events) h =
        record {
          notes = told ++ h.notes;
          by =
              stepped
              ∙ ap (before told) h.by
              ∙ ap (λ l. Next (told ++ h.notes) (record s { regs = map Some l ++ replicate r (Some (pos 0)); world = record s.world { choices = rest } })) (append_assoc done (v ∷ []) arguments);
          same = h.same;
          ints = (IsValue-converted S32 (pos (number % 2 ^ 32)), h.ints);
          count = ap suc h.count;
        }
    by (Dry events) h =
        record { notes = told ++ h.notes; by = stepped ∙ ap (before told) h.by; same = h.same }
