-- Instructions that draw.
use Rattle.std.proofs.Common.{◌≡◌, ℕ, zero, suc, ◌==◌, ◌&&◌, pos, Bool, true, false, List, [], ◌∷◌, ◌++◌, map, Option, Some, None, refl, ap, sym, ◌∙◌, append-nil, append_assoc}
use Rattle.std.specs.Prelude.{Result, Ok, Err, length, if◌then◌else◌}
use Rattle.std.proofs.lemmas.List.{map-append}
use Rattle.dc_core.specs.Event.{Event, Create, Kill as Killed}
use Rattle.dc_core.specs.Event as plain
use Rattle.dc_core.specs.Run.{Note, Did}
use Rattle.dc_core.specs.Choices.{Drawn, Drew, Dry, Draws, ◌>>=◌, after, bind, give, tell, draw, draw_bytes}
use Rattle.dc_core.specs.World.{is_full, next_object}
use Rattle.dc_memory.specs.declared.object.ObjKind.{ObjKind}
use Rattle.dc_memory.specs.declared.object.ObjKind.TheVariants.{Heap}
use Rattle.dc_memory.specs.Objects.{Memory, changed, holding, is_live}
use Rattle.dc_memory.specs.Places.{start_of, with_bytes}
use Rattle.dc_memory.specs.Context.{Range}
use Rattle.dc_goto.specs.declared.operands.Bytes.{Bytes}
use Rattle.dc_goto.specs.Acts.{Now, Then, Next, Jumps, Ends, Enters, Leaves, allocated, creating, drawn, first_bytes, freed, havocked, killed_if, noted_before, object_created, some_killed, with_choices, with_memory, with_object, with_register}
use Rattle.dc_goto.proofs.Line.{before-before, before-nil, then_next}
use Rattle.dc_world.specs.Told.{Supply, IsTaken, Hearing, happens, told}
use Rattle.dc_world.specs.Drawing.{HasDrawn, RanDry, BrokeOff, IsResumed, happened}
use Rattle.dc_world.specs.Report.{end_view}
use Rattle.dc_world.specs.Reported.{dry_at}
use Rattle.dc_world.specs.declared.report.End.{End}
use Rattle.dc_world.proofs.Drawing.{IsTaken-none, IsTaken-join, told-append, resumed_none, resumed_told}
use Rattle.dc_machine.specs.Creating.{created}
use Rattle.dc_machine.specs.Step.{GoesOn, HasEnded, IsCutOff, IsStep, notes_then, acting}

-- what is noted before stands before its notes: so it is of what goes on to the next instruction, and of ends
abbrev pub IsStraight : Then → Type 0
IsStraight t = (notes : List Note) → notes_then (noted_before notes t) ≡ notes ++ notes_then t

abbrev pub AreStraight : {A : Type 0} → (A → Now → Then) → Type 0
AreStraight {A} go = (v : A) (s : Now) → IsStraight (go v s)

-- the choices are no part of a state
abbrev pub IsOpen : (List ℕ → Now) → Type 0
IsOpen state = (choices rest : List ℕ) → with_choices rest (state choices) ≡ state rest

told-two : (xs ys : List Note) (h k l : Hearing) → k ≡ told xs h → l ≡ told ys k → l ≡ told (xs ++ ys) h
told-two xs ys h k l a b = b ∙ ap (told ys) a ∙ sym (told-append xs ys h)

-- what was drawn, and what follows
drawn-then : {A : Type 0} (draws : Draws A) (state : List ℕ → Now) (go : A → Now → Then) (v : A) (choices rest : List ℕ) (events : List Event) → IsOpen state → draws choices ≡ Drew v rest events
    → drawn (draws choices) (state choices) go ≡ noted_before (map Did events) (go v (state rest))
drawn-then draws state go v choices rest events free e =
    ap (λ x. drawn x (state choices) go) e ∙ ap (λ t. noted_before (map Did events) (go v t)) (free choices rest)

pub drawn_goes : {A : Type 0} (draws : Draws A) (state after : List ℕ → Now) (go : A → Now → Then) (v : A) (s s' : Supply) (h h' : Hearing)
    → IsOpen state → ((rest : List ℕ) → go v (state rest) ≡ Next [] (after rest)) → HasDrawn draws v s s' h h' → GoesOn acting (λ choices. drawn (draws choices) (state choices) go) after s s' h h'
drawn_goes draws state after go v s s' h h' free e d = record {
  numbers = d.numbers;
  notes = map Did d.events;
  goes = λ rest.
      drawn-then draws state go v (d.numbers ++ rest) rest d.events free (d.drew rest)
      ∙ ap (noted_before (map Did d.events)) (e rest)
      ∙ ap (λ notes. Next notes (after rest)) (append-nil (map Did d.events));
  taken = d.taken;
  heard = d.heard;
}

pub drawn_ends : {A : Type 0} (draws : Draws A) (state : List ℕ → Now) (go : A → Now → Then) (s s' : Supply) (h h' : Hearing)
    → RanDry draws s s' h h' → HasEnded acting (λ choices. drawn (draws choices) (state choices) go) plain.ChoicesEnded s s' h h'
drawn_ends draws state go s s' h h' d = record {
  numbers = d.numbers;
  notes = map Did d.events;
  world = (with_choices [] (state d.numbers)).world;
  ends = ap (λ x. drawn x (state d.numbers) go) d.ended;
  none_left = refl;
  taken = d.taken;
  heard = d.heard;
}

notes-drawn : {A : Type 0} (d : Drawn A) (s : Now) (go : A → Now → Then) → AreStraight go → (more : List Note) × (notes_then (drawn d s go) ≡ map Did (happened d) ++ more)
notes-drawn (Drew v rest events) s go straight = (notes_then (go v (with_choices rest s)), straight v (with_choices rest s) (map Did events))
notes-drawn (Dry events) s go straight = ([], sym (append-nil (map Did events)))

pub drawn_cut : {A : Type 0} (draws : Draws A) (state : List ℕ → Now) (go : A → Now → Then) (s s' : Supply) (h h' : Hearing)
    → AreStraight go → BrokeOff draws s s' h h' → IsCutOff acting (λ choices. drawn (draws choices) (state choices) go) s s' h h'
drawn_cut draws state go s s' h h' straight d = record {
  numbers = d.numbers;
  notes = map Did d.events;
  front = λ rest.
      let f = d.front rest in
      let n = notes-drawn (draws (d.numbers ++ rest)) (state (d.numbers ++ rest)) go straight in
      (map Did f.0 ++ n.0, n.1 ∙ ap (λ events. map Did events ++ n.0) f.1 ∙ ap (λ notes. notes ++ n.0) (map-append Did d.events f.0) ∙ append_assoc (map Did d.events) (map Did f.0) n.0);
  taken = d.taken;
  heard = d.heard;
}

-- the value was drawn, and memory was wanting behind it
pub broke_behind : {A : Type 0} (draws : Draws A) (v : A) (s s' : Supply) (h h' : Hearing) → HasDrawn draws v s s' h h' → BrokeOff draws s s' h h'
broke_behind draws v s s' h h' d = record {
  numbers = d.numbers;
  events = d.events;
  front = λ rest. ([], ap happened (d.drew rest) ∙ sym (append-nil d.events));
  taken = d.taken;
  heard = d.heard;
}

-- the value was drawn, and what follows is a step
pub drawn_step : {A E : Type 0} (draws : Draws A) (state after : List ℕ → Now) (go : A → Now → Then) (v : A) (r : Result (Option End) E) (s t u : Supply) (h i j : Hearing)
    → IsOpen state → AreStraight go → HasDrawn draws v s t h i → IsStep acting (λ choices. go v (state choices)) after r t u i j → IsStep acting (λ choices. drawn (draws choices) (state choices) go) after r s u h j
drawn_step draws state after go v (Ok None) s t u h i j free straight d b = record {
  numbers = d.numbers ++ b.numbers;
  notes = map Did d.events ++ b.notes;
  goes = λ rest.
      drawn-then draws state go v ((d.numbers ++ b.numbers) ++ rest) (b.numbers ++ rest) d.events free (ap draws (append_assoc d.numbers b.numbers rest) ∙ d.drew (b.numbers ++ rest))
      ∙ ap (noted_before (map Did d.events)) (b.goes rest);
  taken = IsTaken-join d.numbers b.numbers 0 s t u d.taken b.taken;
  heard = told-two (map Did d.events) b.notes h i j d.heard b.heard;
}
drawn_step draws state after go v (Ok (Some end)) s t u h i j free straight d b = record {
  numbers = d.numbers ++ b.numbers;
  notes = map Did d.events ++ b.notes;
  world = b.world;
  ends = drawn-then draws state go v (d.numbers ++ b.numbers) b.numbers d.events free (d.drew b.numbers) ∙ ap (noted_before (map Did d.events)) b.ends;
  none_left = b.none_left;
  taken = IsTaken-join d.numbers b.numbers (dry_at (end_view end)) s t u d.taken b.taken;
  heard = told-two (map Did d.events) b.notes h i j d.heard b.heard;
}
drawn_step draws state after go v (Err e) s t u h i j free straight d b = record {
  numbers = d.numbers ++ b.numbers;
  notes = map Did d.events ++ b.notes;
  front = λ rest.
      let f = b.front rest in (
        f.0,
        ap notes_then (drawn-then draws state go v ((d.numbers ++ b.numbers) ++ rest) (b.numbers ++ rest) d.events free (ap draws (append_assoc d.numbers b.numbers rest) ∙ d.drew (b.numbers ++ rest)))
            ∙ straight v (state (b.numbers ++ rest)) (map Did d.events)
            ∙ ap (λ notes. map Did d.events ++ notes) f.1
            ∙ sym (append_assoc (map Did d.events) b.notes f.0),
      );
  taken = IsTaken-join d.numbers b.numbers 0 s t u d.taken b.taken;
  heard = told-two (map Did d.events) b.notes h i j d.heard b.heard;
}

-- nothing had to be drawn
pub drew-at-once : {A : Type 0} (draws : Draws A) (v : A) (s : Supply) (h : Hearing) → ((rest : List ℕ) → draws rest ≡ give v rest) → HasDrawn draws v s s h h
drew-at-once draws v s h e = record { numbers = []; events = []; drew = e; taken = IsTaken-none s; heard = refl }

-- Objects that are made ---------------------------------------------------------------------------------------------

-- what is done with a new object
abbrev pub made : ℕ → (ℕ → Now → Then) → Memory → Now → Then
made number go memory s = go number (with_memory memory s)

-- an object is told, and its bytes are still to be drawn
pub created-told : (kind : ObjKind) (bytes : Bytes) (size : ℕ) (memory : Memory) (number : ℕ) (s : Supply) (h k : Hearing) → number ≡ suc (length memory) → k ≡ happens (Create number) h
    → IsResumed (created kind bytes size memory) (first_bytes bytes size >>= λ values. give (memory ++ holding kind values ∷ [])) s s h k
created-told kind bytes size memory number s h k e f =
    resumed_told (created kind bytes size memory) (created kind bytes size memory) (first_bytes bytes size >>= λ values. give (memory ++ holding kind values ∷ [])) (Create (suc (length memory))) _ _ _ _ _
    (resumed_none (created kind bytes size memory) s h) (λ choices. refl) (f ∙ ap (λ n. happens (Create n) h) e)

pub creating-full : (kind : ObjKind) (bytes : Bytes) (size : ℕ) (s : Now) (go : ℕ → Now → Then) → is_full s.world ≡ true → creating kind bytes size s go ≡ Ends [] plain.ObjectLimit s.world
creating-full kind bytes size s go e = ap (λ full. object_created kind bytes size full s go) e

made-drawn : (before : List Event) (x : Drawn (List ℕ)) (kind : ObjKind) (s : Now) (number : ℕ) (go : ℕ → Now → Then)
    → drawn (after before (bind x (λ values. give (s.world.memory ++ holding kind values ∷ [])))) s (made number go) ≡ drawn (after before x) s (λ values t. go number (with_object kind values t))
made-drawn before (Drew v rest events) kind s number go = ap (λ events. noted_before (map Did (before ++ events)) (go number (with_object kind v (with_choices rest s)))) (append-nil events)
made-drawn before (Dry events) kind s number go = refl

pub creating-drawn : (kind : ObjKind) (bytes : Bytes) (size : ℕ) (s : Now) (go : ℕ → Now → Then) → is_full s.world ≡ false
    → creating kind bytes size s go ≡ drawn (created kind bytes size s.world.memory s.world.choices) s (made (next_object s.world) go)
creating-drawn kind bytes size s go e =
    ap (λ full. object_created kind bytes size full s go) e
    ∙ sym (made-drawn (Create (next_object s.world) ∷ []) (first_bytes bytes size s.world.choices) kind s (next_object s.world) go)

drawn-straight : {A : Type 0} (d : Drawn A) (s : Now) (go : A → Now → Then) → AreStraight go → IsStraight (drawn d s go)
drawn-straight (Drew v rest events) s go straight notes =
    ap notes_then (before-before notes (map Did events) (go v (with_choices rest s)))
    ∙ straight v (with_choices rest s) (notes ++ map Did events)
    ∙ append_assoc notes (map Did events) (notes_then (go v (with_choices rest s)))
    ∙ ap (λ more. notes ++ more) (sym (straight v (with_choices rest s) (map Did events)))
drawn-straight (Dry events) s go straight notes = refl

pub creating-straight : (kind : ObjKind) (bytes : Bytes) (size : ℕ) (s : Now) (go : ℕ → Now → Then) → AreStraight go → IsStraight (creating kind bytes size s go)
creating-straight kind bytes size s go straight = by (is_full s.world)
  where
    by : (full : Bool) → IsStraight (object_created kind bytes size full s go)
    by true notes = refl
    by false notes =
        drawn-straight (tell (Create (next_object s.world)) (first_bytes bytes size) s.world.choices) s (λ values t. go (next_object s.world) (with_object kind values t))
        (λ values t. straight (next_object s.world) (with_object kind values t)) notes

pub allocated-straight : (r : ℕ) (bytes : Bytes) (size : ℕ) → AreStraight (λ n t. allocated r bytes size n t)
allocated-straight r bytes size zero s = λ notes. refl
allocated-straight r bytes size (suc n) s = creating-straight Heap bytes size s (λ object t. Next [] (with_register r (Some (pos (start_of object))) t)) (λ object t notes. refl)

-- Objects that die as is drawn -----------------------------------------------------------------------------------------

killed-straight : (b : Bool) (object : ℕ) (s : Now) (go : Now → Then) → ((t : Now) → IsStraight (go t)) → IsStraight (killed_if b object s go)
killed-straight true object s go straight notes =
    ap notes_then (before-before notes (Did (Killed object) ∷ []) (go (freed object s)))
    ∙ straight (freed object s) (notes ++ Did (Killed object) ∷ [])
    ∙ append_assoc notes (Did (Killed object) ∷ []) (notes_then (go (freed object s)))
    ∙ ap (λ more. notes ++ more) (sym (straight (freed object s) (Did (Killed object) ∷ [])))
killed-straight false object s go straight notes = straight s notes

pub some_killed-straight : (objects : List ℕ) (s : Now) → IsStraight (some_killed objects s)
some_killed-straight [] s = λ notes. refl
some_killed-straight (object ∷ objects) s =
    drawn-straight (draw 2 s.world.choices) s (λ n t. killed_if (n == 1 && is_live t.world.memory object) object t (λ u. some_killed objects u))
    (λ n t. killed-straight (n == 1 && is_live t.world.memory object) object t (λ u. some_killed objects u) (some_killed-straight objects))

-- the first of the objects were passed, and the others are still to be
pub record IsPassed (all others : List ℕ) (old now : List ℕ → Now) (s s' : Supply) (h h' : Hearing) : Type 0 where
  pub numbers : List ℕ
  pub notes : List Note
  pub goes : (rest : List ℕ) → some_killed all (old (numbers ++ rest)) ≡ noted_before notes (some_killed others (now rest))
  pub taken : IsTaken numbers 0 s s'
  pub heard : h' ≡ told notes h

pub passed-none : (all others : List ℕ) (old : List ℕ → Now) (s : Supply) (h : Hearing) → others ≡ all → IsPassed all others old old s s h h
passed-none all others old s h e = record {
  numbers = [];
  notes = [];
  goes = λ rest. ap (λ l. some_killed l (old rest)) (sym e) ∙ sym (before-nil (some_killed others (old rest)));
  taken = IsTaken-none s;
  heard = refl;
}

-- the first of some objects, and then the others
killed-first : (object : ℕ) (others : List ℕ) (s : Now) → some_killed (object ∷ others) s ≡ then_next (some_killed (object ∷ []) s) (some_killed others)
killed-first object others s = by (draw 2 s.world.choices)
  where
    if-killed : (notes : List Note) (b : Bool) (t : Now) → noted_before notes (killed_if b object t (λ u. some_killed others u)) ≡ then_next (noted_before notes (killed_if b object t (λ u. Next [] u))) (some_killed others)
    if-killed notes true t = before-before notes (Did (Killed object) ∷ []) (some_killed others (freed object t))
    if-killed notes false t = ap (λ notes. noted_before notes (some_killed others t)) (sym (append-nil notes))

    by : (d : Drawn ℕ) → drawn d s (λ n t. killed_if (n == 1 && is_live t.world.memory object) object t (λ u. some_killed others u)) ≡ then_next (drawn d s (λ n t. killed_if (n == 1 && is_live t.world.memory object) object t (λ u. Next [] u))) (some_killed others)
    by (Drew n rest events) = if-killed (map Did events) (n == 1 && is_live s.world.memory object) (with_choices rest s)
    by (Dry events) = refl

-- what the first of the others comes to
passed-first : (all others rest : List ℕ) (object : ℕ) (old mid : List ℕ → Now) (s t : Supply) (h i : Hearing) (p : IsPassed all others old mid s t h i) → others ≡ object ∷ rest → (numbers choices : List ℕ)
    → some_killed all (old ((p.numbers ++ numbers) ++ choices)) ≡ noted_before p.notes (then_next (some_killed (object ∷ []) (mid (numbers ++ choices))) (some_killed rest))
passed-first all others rest object old mid s t h i p first numbers choices =
    ap (λ c. some_killed all (old c)) (append_assoc p.numbers numbers choices)
    ∙ p.goes (numbers ++ choices)
    ∙ ap (λ l. noted_before p.notes (some_killed l (mid (numbers ++ choices)))) first
    ∙ ap (noted_before p.notes) (killed-first object rest (mid (numbers ++ choices)))

-- one more was passed
pub passed-one : (all others rest : List ℕ) (object : ℕ) (old mid new : List ℕ → Now) (s t u : Supply) (h i j : Hearing) → IsPassed all others old mid s t h i → others ≡ object ∷ rest
    → GoesOn acting (λ choices. some_killed (object ∷ []) (mid choices)) new t u i j → IsPassed all rest old new s u h j
passed-one all others rest object old mid new s t u h i j p first b = record {
  numbers = p.numbers ++ b.numbers;
  notes = p.notes ++ b.notes;
  goes = λ choices.
      passed-first all others rest object old mid s t h i p first b.numbers choices
      ∙ ap (λ x. noted_before p.notes (then_next x (some_killed rest))) (b.goes choices)
      ∙ before-before p.notes b.notes (some_killed rest (new choices));
  taken = IsTaken-join p.numbers b.numbers 0 s t u p.taken b.taken;
  heard = told-two p.notes b.notes h i j p.heard b.heard;
}

-- the run ended at one
pub passed-ended : (all others rest : List ℕ) (object : ℕ) (old mid : List ℕ → Now) (end : plain.End) (s t u : Supply) (h i j : Hearing) → IsPassed all others old mid s t h i → others ≡ object ∷ rest
    → HasEnded acting (λ choices. some_killed (object ∷ []) (mid choices)) end t u i j → HasEnded acting (λ choices. some_killed all (old choices)) end s u h j
passed-ended all others rest object old mid end s t u h i j p first b = record {
  numbers = p.numbers ++ b.numbers;
  notes = p.notes ++ b.notes;
  world = b.world;
  ends =
      p.goes b.numbers
      ∙ ap (λ l. noted_before p.notes (some_killed l (mid b.numbers))) first
      ∙ ap (noted_before p.notes) (killed-first object rest (mid b.numbers))
      ∙ ap (λ x. noted_before p.notes (then_next x (some_killed rest))) b.ends;
  none_left = b.none_left;
  taken = IsTaken-join p.numbers b.numbers (dry_at end) s t u p.taken b.taken;
  heard = told-two p.notes b.notes h i j p.heard b.heard;
}

notes-next : (t : Then) (go : Now → Then) → ((s : Now) → IsStraight (go s)) → (more : List Note) × (notes_then (then_next t go) ≡ notes_then t ++ more)
notes-next (Next notes s) go straight = (notes_then (go s), straight s notes)
notes-next (Jumps place s) go straight = ([], refl)
notes-next (Ends notes end w) go straight = ([], sym (append-nil notes))
notes-next (Enters result name values s) go straight = ([], refl)
notes-next (Leaves value s) go straight = ([], refl)

next-straight : (t : Then) (go : Now → Then) → IsStraight t → ((s : Now) → IsStraight (go s)) → IsStraight (then_next t go)
next-straight (Next more s) go it straight notes =
    ap notes_then (before-before notes more (go s)) ∙ straight s (notes ++ more) ∙ append_assoc notes more (notes_then (go s)) ∙ ap (λ l. notes ++ l) (sym (straight s more))
next-straight (Jumps place s) go it straight notes = it notes
next-straight (Ends more end w) go it straight notes = refl
next-straight (Enters result name values s) go it straight notes = it notes
next-straight (Leaves value s) go it straight notes = it notes

-- memory was wanting at one
pub passed-cut : (all others rest : List ℕ) (object : ℕ) (old mid : List ℕ → Now) (s t u : Supply) (h i j : Hearing) → IsPassed all others old mid s t h i → others ≡ object ∷ rest
    → IsCutOff acting (λ choices. some_killed (object ∷ []) (mid choices)) t u i j → IsCutOff acting (λ choices. some_killed all (old choices)) s u h j
passed-cut all others rest object old mid s t u h i j p first b = record {
  numbers = p.numbers ++ b.numbers;
  notes = p.notes ++ b.notes;
  front = λ choices.
      let one = some_killed (object ∷ []) (mid (b.numbers ++ choices)) in
      let f = b.front choices in
      let n = notes-next one (some_killed rest) (some_killed-straight rest) in (
        f.0 ++ n.0,
        ap notes_then (passed-first all others rest object old mid s t h i p first b.numbers choices)
            ∙ next-straight one (some_killed rest) (some_killed-straight (object ∷ []) (mid (b.numbers ++ choices))) (some_killed-straight rest) p.notes
            ∙ ap (λ l. p.notes ++ l) (n.1 ∙ ap (λ l. l ++ n.0) f.1 ∙ append_assoc b.notes f.0 n.0)
            ∙ sym (append_assoc p.notes b.notes (f.0 ++ n.0)),
      );
  taken = IsTaken-join p.numbers b.numbers 0 s t u p.taken b.taken;
  heard = told-two p.notes b.notes h i j p.heard b.heard;
}

-- all were passed
pub passed-all : (all others : List ℕ) (old new : List ℕ → Now) (s t : Supply) (h i : Hearing) → IsPassed all others old new s t h i → others ≡ [] → GoesOn acting (λ choices. some_killed all (old choices)) new s t h i
passed-all all others old new s t h i p none = record {
  numbers = p.numbers;
  notes = p.notes;
  goes = λ rest. p.goes rest ∙ ap (λ l. noted_before p.notes (some_killed l (new rest))) none ∙ ap (λ l. Next l (new rest)) (append-nil p.notes);
  taken = p.taken;
  heard = p.heard;
}

-- what is done with one object, by the number that was drawn for it
abbrev pub passing : ℕ → ℕ → Now → Then
passing object n t = killed_if (n == 1 && is_live t.world.memory object) object t (λ u. Next [] u)

pub passing-straight : (object : ℕ) → AreStraight (passing object)
passing-straight object n t = killed-straight (n == 1 && is_live t.world.memory object) object t (λ u. Next [] u) (λ u notes. refl)

-- Bytes of ranges that are drawn ----------------------------------------------------------------------------------------

after-none : {A : Type 0} (x : Drawn A) → after [] x ≡ x
after-none (Drew v rest events) = refl
after-none (Dry events) = refl

bind-given : {A B C : Type 0} (x : Drawn A) (g : A → B) (f : B → Draws C) → bind (bind x (λ v. give (g v))) f ≡ bind x (λ v. f (g v))
bind-given (Drew v rest events) g f = ap (λ events. after events (f (g v) rest)) (append-nil events)
bind-given (Dry events) g f = refl

pub havoc-live : (range : Range) (ranges : List Range) (memory : Memory) (choices : List ℕ) → is_live memory range.object ≡ true
    → havocked (range ∷ ranges) memory choices ≡ (draw_bytes range.len >>= λ values. havocked ranges (changed range.object (with_bytes range.from values) memory)) choices
havoc-live range ranges memory choices e = ap (λ b. (if b then (draw_bytes range.len >>= λ values. havocked ranges (changed range.object (with_bytes range.from values) memory)) else havocked ranges memory) choices) e

pub havoc-dead : (range : Range) (ranges : List Range) (memory : Memory) (choices : List ℕ) → is_live memory range.object ≡ false → havocked (range ∷ ranges) memory choices ≡ havocked ranges memory choices
havoc-dead range ranges memory choices e = ap (λ b. (if b then (draw_bytes range.len >>= λ values. havocked ranges (changed range.object (with_bytes range.from values) memory)) else havocked ranges memory) choices) e

-- the first of some ranges, and the others
pub havoc-first : (all others : List Range) (range : Range) (memory : Memory) (choices : List ℕ) → all ≡ range ∷ others
    → havocked all memory choices ≡ (havocked (range ∷ []) memory >>= λ after. havocked others after) choices
havoc-first all others range memory choices e = ap (λ l. havocked l memory choices) e ∙ by (is_live memory range.object) refl
  where
    by : (b : Bool) → is_live memory range.object ≡ b → havocked (range ∷ others) memory choices ≡ (havocked (range ∷ []) memory >>= λ after. havocked others after) choices
    by true live =
        havoc-live range others memory choices live
        ∙ sym (bind-given (draw_bytes range.len choices) (λ values. changed range.object (with_bytes range.from values) memory) (λ after. havocked others after))
        ∙ ap (λ x. bind x (λ after. havocked others after)) (sym (havoc-live range [] memory choices live))
    by false dead =
        havoc-dead range others memory choices dead
        ∙ sym (after-none (havocked others memory choices))
        ∙ ap (λ x. bind x (λ after. havocked others after)) (sym (havoc-dead range [] memory choices dead))
