-- The machine alone: runs are joined, go on, and stay once they have ended.
use Rattle.std.proofs.Common.{◌≡◌, ℕ, zero, suc, ◌+◌, ◌-◌, List, [], ◌++◌, Some, refl, sym, ap, subst, ◌∙◌, arith, append_assoc, append-nil}
use Rattle.std.specs.Prelude.{slice_get}
use Rattle.dc_core.specs.Event.{End}
use Rattle.dc_core.specs.World.{World}
use Rattle.dc_core.specs.Run.{Note, seen}
use Rattle.dc_core.specs.Outcome.{IsPrefix, Covers, IsRun}
use Rattle.dc_core.proofs.Tracked.{same_refl, covers_same}
use Rattle.dc_goto.specs.Program.{Instr, GotoProgram}
use Rattle.dc_goto.specs.Machine.{Machine, Run, Going, Stopped, noted, go_on, step, step_at, steps, start, seen_run, goto_run}
use Rattle.dc_goto.proofs.Notes.{fails, fails-append}

pub noted-nil : (r : Run) → noted [] r ≡ r
noted-nil (Going notes m) = refl
noted-nil (Stopped notes e w) = refl

pub noted-noted : (xs ys : List Note) (r : Run) → noted xs (noted ys r) ≡ noted (xs ++ ys) r
noted-noted xs ys (Going notes m) = ap (λ ns. Going ns m) (sym (append_assoc xs ys notes))
noted-noted xs ys (Stopped notes e w) = ap (λ ns. Stopped ns e w) (sym (append_assoc xs ys notes))

go_on-noted : (xs : List Note) (r : Run) (f : Machine → Run) → go_on (noted xs r) f ≡ noted xs (go_on r f)
go_on-noted xs (Going notes m) f = sym (noted-noted xs notes (f m))
go_on-noted xs (Stopped notes e w) f = refl

go_on-go_on : (r : Run) (f g : Machine → Run) → go_on (go_on r f) g ≡ go_on r (λ m. go_on (f m) g)
go_on-go_on (Going notes m) f g = go_on-noted notes (f m) g
go_on-go_on (Stopped notes e w) f g = refl

go_on-same : (r : Run) (f g : Machine → Run) → ((m : Machine) → f m ≡ g m) → go_on r f ≡ go_on r g
go_on-same (Going notes m) f g h = ap (noted notes) (h m)
go_on-same (Stopped notes e w) f g h = refl

-- i instructions and then j
pub steps-add : (p : GotoProgram) (i j : ℕ) (m : Machine) → steps p (i + j) m ≡ go_on (steps p i m) (steps p j)
steps-add p zero j m = let e : zero + j ≡ j = omega arith in ap (λ n. steps p n m) e ∙ sym (noted-nil (steps p j m))
steps-add p (suc i) j m =
    let e : suc i + j ≡ suc (i + j) = omega arith in
    ap (λ n. steps p n m) e
    ∙ go_on-same (step p m) (steps p (i + j)) (λ m. go_on (steps p i m) (steps p j)) (λ m. steps-add p i j m)
    ∙ sym (go_on-go_on (step p m) (steps p i) (steps p j))

-- a run to a state, and from there on
pub steps_join : (p : GotoProgram) (i j : ℕ) (m m' : Machine) (notes : List Note) (r : Run) → steps p i m ≡ Going notes m' → steps p j m' ≡ r → steps p (i + j) m ≡ noted notes r
steps_join p i j m m' notes r e f = steps-add p i j m ∙ ap (λ x. go_on x (steps p j)) e ∙ ap (noted notes) f

-- a run that has ended stays as it is
pub steps_stay : (p : GotoProgram) (i j : ℕ) (m : Machine) (notes : List Note) (e : End) (w : World) → steps p i m ≡ Stopped notes e w → steps p (i + j) m ≡ Stopped notes e w
steps_stay p i j m notes e w h = steps-add p i j m ∙ ap (λ x. go_on x (steps p j)) h

go_on-zero : (p : GotoProgram) (r : Run) → go_on r (steps p zero) ≡ r
go_on-zero p (Going notes m) = ap (λ ns. Going ns m) (append-nil notes)
go_on-zero p (Stopped notes e w) = refl

-- one instruction
pub one : (p : GotoProgram) (m : Machine) (i : Instr) (r : Run) → slice_get m.code m.place ≡ Some i → step_at p m (Some i) ≡ r → steps p 1 m ≡ r
one p m i r h e = go_on-zero p (step p m) ∙ ap (step_at p m) h ∙ e

prefix_of_more : (choices : List ℕ) (notes : List Note) (m : Machine) (r : Run) → IsPrefix (seen_run choices (Going notes m)).names (seen_run choices (noted notes r)).names
prefix_of_more choices notes m (Going more m') = (fails more, fails-append notes more)
prefix_of_more choices notes m (Stopped more e w) = (fails more, fails-append notes more)

covers_later : (p : GotoProgram) (choices : List ℕ) (j : ℕ) (r : Run) → Covers (seen_run choices r).end (seen_run choices r) (seen_run choices (go_on r (steps p j)))
covers_later p choices j (Going notes m) = prefix_of_more choices notes m (steps p j m)
covers_later p choices j (Stopped notes e w) = covers_same e _ _ (same_refl (seen choices notes e w))

pub run_goes_on : (p : GotoProgram) → IsRun (goto_run p)
run_goes_on p =
    record {
      goes_on = λ k m choices le.
          let e : k + (m - k) ≡ m = omega arith in
          let r = go_on (start p choices) (steps p k) in
          let f : go_on r (steps p (m - k)) ≡ go_on (start p choices) (steps p m) =
          go_on-go_on (start p choices) (steps p k) (steps p (m - k))
          ∙ sym (go_on-same (start p choices) (steps p (k + (m - k))) (λ s. go_on (steps p k s) (steps p (m - k))) (λ s. steps-add p k (m - k) s))
          ∙ ap (λ n. go_on (start p choices) (steps p n)) e in
          subst (λ x. Covers (seen_run choices r).end (seen_run choices r) (seen_run choices x)) f (covers_later p choices (m - k) r);
    }
