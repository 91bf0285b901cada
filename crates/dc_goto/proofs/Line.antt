-- Instructions in a line: their run is a fold, so a proof computes it and joins no runs by hand.
use Rattle.std.proofs.Common.{◌≡◌, ℕ, zero, suc, ◌+◌, List, [], ◌∷◌, ◌++◌, length, Some, refl, sym, ap, ◌∙◌, subst, arith, append_assoc, length-append}
use Rattle.std.specs.Prelude.{slice_get}
use Rattle.dc_core.specs.Event.{End}
use Rattle.dc_core.specs.World.{World}
use Rattle.dc_core.specs.Run.{Note}
use Rattle.dc_goto.specs.Program.{Instr, GotoProgram}
use Rattle.dc_goto.specs.Machine.{Now, Then, Next, Jumps, Ends, Enters, Leaves, act, Frame, Machine, Going, Stopped, noted, go_on, proceed, step, step_at, steps}
pub use Rattle.dc_goto.specs.Acts.{noted_before as before}

-- the instructions stand in the code at this place
abbrev pub HasAt : List Instr → ℕ → List Instr → Type 0
HasAt code place [] = Unit {0}
HasAt code place (i ∷ is) = (slice_get code place ≡ Some i) × HasAt code (suc place) is

pub has_front : (code : List Instr) (place : ℕ) (a b : List Instr) → HasAt code place (a ++ b) → HasAt code place a
has_front code place [] b h = tt
has_front code place (i ∷ a) b h = (h.0, has_front code (suc place) a b h.1)

pub has_back : (code : List Instr) (place : ℕ) (a b : List Instr) → HasAt code place (a ++ b) → HasAt code (place + length a) b
has_back code place [] b h = let e : place ≡ place + 0 = omega arith in subst (λ n. HasAt code n b) e h
has_back code place (i ∷ a) b h =
    let e : suc place + length a ≡ place + length (i ∷ a) = omega arith in
    subst (λ n. HasAt code n b) e (has_back code (suc place) a b h.1)

has_all_at : (before is : List Instr) (place : ℕ) → length before ≡ place → HasAt (before ++ is) place is
has_all_at before [] place e = tt
has_all_at before (i ∷ is) place e =
    let n : length (before ++ i ∷ []) ≡ suc place = omega (arith, length-append before (i ∷ [])) in
    let rest = has_all_at (before ++ i ∷ []) is (suc place) n in
    (here before place e, subst (λ l. HasAt l (suc place) is) (append_assoc before (i ∷ []) is) rest)
  where
    here : (before : List Instr) (place : ℕ) → length before ≡ place → slice_get (before ++ i ∷ is) place ≡ Some i
    here [] zero e = refl
    here [] (suc place) e = absurd (omega arith)
    here (x ∷ before) zero e = absurd (omega arith)
    here (x ∷ before) (suc place) e = here before place (omega arith)

pub has_all : (is : List Instr) → HasAt is 0 is
has_all is = has_all_at [] is 0 refl

abbrev pub then_next : Then → (Now → Then) → Then
then_next (Next notes s) go = before notes (go s)
then_next (Jumps place s) go = Jumps place s
then_next (Ends notes e w) go = Ends notes e w
then_next (Enters result name arguments s) go = Enters result name arguments s
then_next (Leaves value s) go = Leaves value s

-- the instructions of a line, one after another
abbrev pub line : GotoProgram → List ℕ → List Instr → Now → Then
line p name [] s = Next [] s
line p name (i ∷ is) s = then_next (act p name i s) (line p name is)

pub before-before : (xs ys : List Note) (t : Then) → before xs (before ys t) ≡ before (xs ++ ys) t
before-before xs ys (Next notes s) = ap (λ ns. Next ns s) (sym (append_assoc xs ys notes))
before-before xs ys (Jumps place s) = refl
before-before xs ys (Ends notes e w) = ap (λ ns. Ends ns e w) (sym (append_assoc xs ys notes))
before-before xs ys (Enters result name arguments s) = refl
before-before xs ys (Leaves value s) = refl

pub before-nil : (t : Then) → before [] t ≡ t
before-nil (Next notes s) = refl
before-nil (Jumps place s) = refl
before-nil (Ends notes e w) = refl
before-nil (Enters result name arguments s) = refl
before-nil (Leaves value s) = refl

then_next-before : (xs : List Note) (t : Then) (go : Now → Then) → then_next (before xs t) go ≡ before xs (then_next t go)
then_next-before xs (Next notes s) go = sym (before-before xs notes (go s))
then_next-before xs (Jumps place s) go = refl
then_next-before xs (Ends notes e w) go = refl
then_next-before xs (Enters result name arguments s) go = refl
then_next-before xs (Leaves value s) go = refl

-- a line in two parts
pub line-append : (p : GotoProgram) (name : List ℕ) (xs ys : List Instr) (s : Now) → line p name (xs ++ ys) s ≡ then_next (line p name xs s) (line p name ys)
line-append p name [] ys s = sym (before-nil (line p name ys s))
line-append p name (x ∷ xs) ys s = by (act p name x s) (λ t. line-append p name xs ys t)
  where
    by : (t : Then) → ((s : Now) → line p name (xs ++ ys) s ≡ then_next (line p name xs s) (line p name ys)) → then_next t (line p name (xs ++ ys)) ≡ then_next (then_next t (line p name xs)) (line p name ys)
    by (Next notes s) h = ap (before notes) (h s) ∙ sym (then_next-before notes (line p name xs s) (line p name ys))
    by (Jumps place s) h = refl
    by (Ends notes e w) h = refl
    by (Enters result function arguments s) h = refl
    by (Leaves value s) h = refl

-- the state in a body, at a place
abbrev pub at : List ℕ → List Instr → List Frame → ℕ → Now → Machine
at name code frames place s = record { name = name; code = code; place = place; frames = frames; now = s }

step_has : (p : GotoProgram) (m : Machine) (i : Instr) → slice_get m.code m.place ≡ Some i → step p m ≡ proceed p m (act p m.name i m.now)
step_has p m i h = ap (step_at p m) h

-- a line that comes to its end
pub line_next : (p : GotoProgram) (name : List ℕ) (code : List Instr) (frames : List Frame) (is : List Instr) (place : ℕ) (s s' : Now) (notes : List Note)
    → HasAt code place is → line p name is s ≡ Next notes s'
    → steps p (length is) (at name code frames place s) ≡ Going notes (at name code frames (place + length is) s')
line_next p name code frames [] place s s' notes has e =
    let n : place ≡ place + 0 = omega arith in
    let f : Next [] s ≡ Next notes s' = e in
    let en : [] ≡ notes = cc in
    let es : s ≡ s' = cc in
    ap (λ ns. Going ns (at name code frames place s)) en ∙ ap (λ x. Going notes (at name code frames place x)) es ∙ ap (λ k. Going notes (at name code frames k s')) n
line_next p name code frames (i ∷ is) place s s' notes has e =
    ap (λ r. go_on r (steps p (length is))) (step_has p (at name code frames place s) i has.0)
    ∙ by (act p name i s) e (λ t more f. line_next p name code frames is (suc place) t s' more has.1 f)
  where
    rest : (t : Now) (xs : List Note) (u : Then) → line p name is t ≡ u → before xs u ≡ Next notes s' → ((more : List Note) → line p name is t ≡ Next more s' → steps p (length is) (at name code frames (suc place) t) ≡ Going more (at name code frames (suc place + length is) s')) → noted xs (steps p (length is) (at name code frames (suc place) t)) ≡ Going notes (at name code frames (place + length (i ∷ is)) s')
    rest t xs (Next more s'') eu f h =
        let en : xs ++ more ≡ notes = cc in
        let es : s'' ≡ s' = cc in
        let n : suc place + length is ≡ place + length (i ∷ is) = omega arith in
        ap (noted xs) (h more (eu ∙ ap (Next more) es)) ∙ ap (λ ns. Going ns (at name code frames (suc place + length is) s')) en ∙ ap (λ k. Going notes (at name code frames k s')) n
    rest t xs (Ends more x w) eu f h = cc
    rest t xs (Jumps place s) eu f h = cc
    rest t xs (Enters result function arguments s) eu f h = cc
    rest t xs (Leaves value s) eu f h = cc

    by : (t : Then) → then_next t (line p name is) ≡ Next notes s' → ((t : Now) (more : List Note) → line p name is t ≡ Next more s' → steps p (length is) (at name code frames (suc place) t) ≡ Going more (at name code frames (suc place + length is) s')) → go_on (proceed p (at name code frames place s) t) (steps p (length is)) ≡ Going notes (at name code frames (place + length (i ∷ is)) s')
    by (Next xs t) f h = rest t xs (line p name is t) refl f (λ more. h t more)
    by (Ends xs x w) f h = cc
    by (Jumps place s) f h = cc
    by (Enters result function arguments s) f h = cc
    by (Leaves value s) f h = cc

-- a line that ends the run
pub line_ends : (p : GotoProgram) (name : List ℕ) (code : List Instr) (frames : List Frame) (is : List Instr) (place : ℕ) (s : Now) (notes : List Note) (end : End) (w : World)
    → HasAt code place is → line p name is s ≡ Ends notes end w
    → steps p (length is) (at name code frames place s) ≡ Stopped notes end w
line_ends p name code frames [] place s notes end w has e = let f : Next [] s ≡ Ends notes end w = e in cc
line_ends p name code frames (i ∷ is) place s notes end w has e =
    ap (λ r. go_on r (steps p (length is))) (step_has p (at name code frames place s) i has.0)
    ∙ by (act p name i s) e (λ t more f. line_ends p name code frames is (suc place) t more end w has.1 f)
  where
    rest : (t : Now) (xs : List Note) (u : Then) → line p name is t ≡ u → before xs u ≡ Ends notes end w → ((more : List Note) → line p name is t ≡ Ends more end w → steps p (length is) (at name code frames (suc place) t) ≡ Stopped more end w) → noted xs (steps p (length is) (at name code frames (suc place) t)) ≡ Stopped notes end w
    rest t xs (Ends more x v) eu f h =
        let en : xs ++ more ≡ notes = cc in
        let ex : x ≡ end = cc in
        let ev : v ≡ w = cc in
        ap (noted xs) (h more (eu ∙ ap (λ y. Ends more y v) ex ∙ ap (Ends more end) ev)) ∙ ap (λ ns. Stopped ns end w) en
    rest t xs (Next more s'') eu f h = cc
    rest t xs (Jumps place s) eu f h = cc
    rest t xs (Enters result function arguments s) eu f h = cc
    rest t xs (Leaves value s) eu f h = cc

    by : (t : Then) → then_next t (line p name is) ≡ Ends notes end w → ((t : Now) (more : List Note) → line p name is t ≡ Ends more end w → steps p (length is) (at name code frames (suc place) t) ≡ Stopped more end w) → go_on (proceed p (at name code frames place s) t) (steps p (length is)) ≡ Stopped notes end w
    by (Next xs t) f h = rest t xs (line p name is t) refl f (λ more. h t more)
    by (Ends xs x v) f h =
        let g : Ends xs x v ≡ Ends notes end w = f in
        let en : xs ≡ notes = cc in
        let ex : x ≡ end = cc in
        let ev : v ≡ w = cc in
        ap (λ ns. Stopped ns x v) en ∙ ap (λ y. Stopped notes y v) ex ∙ ap (Stopped notes end) ev
    by (Jumps place s) f h = cc
    by (Enters result function arguments s) f h = cc
    by (Leaves value s) f h = cc
