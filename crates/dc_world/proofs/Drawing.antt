-- Drawing in parts: what is taken and told in each part is taken and told in all.
use Rattle.std.proofs.Common.{◌≡◌, ℕ, suc, ◌%◌, ℤ, List, [], ◌∷◌, ◌++◌, length, map, Option, Some, None, refl, ap, sym, ◌∙◌, arith, append_assoc, append-nil, length-append}
use Rattle.std.specs.Prelude.{Result, Ok, Err, IsErr, IfSome}
use Rattle.std.proofs.lemmas.List.{map-append}
use Rattle.dc_num.specs.declared.kind.NumKind.TheVariants.{S32}
use Rattle.dc_core.specs.Event.{Event, Draw, Create}
use Rattle.dc_core.specs.Run.{Note, Did}
use Rattle.dc_core.specs.Choices.{Drawn, Drew, Dry, Draws, ◌>>=◌, bind, give, tell, draw, draw_bytes, draw_value, after}
use Rattle.dc_memory.specs.declared.object.ObjKind.{ObjKind}
use Rattle.dc_memory.specs.declared.object.ObjKind.TheVariants.{Static, Heap, Stack}
use Rattle.dc_memory.specs.declared.object.Object.{Object}
use Rattle.dc_memory.specs.Objects.{Memory, holding}
use Rattle.dc_core.specs.Objects.{dead}
use Rattle.dc_core.specs.Entry.{static_objects, dead_object, drawn_objects, draw_arguments}
use Rattle.dc_choice.specs.Chosen.{Used, Takes, Counted}
use Rattle.dc_world.specs.Told.{Supply, supply, IsTaken, Hearing, noted, happens, told}
use Rattle.dc_world.specs.Sorts.{count_of, object_of}
use Rattle.dc_world.specs.declared.sorts.Sorts.{Sorts}
use Rattle.dc_world.specs.declared.sorts.Sorts.TheVariants.{Outside, New}
use Rattle.dc_world.specs.Drawing.{HasDrawn, RanDry, happened, BrokeOff, IsDrawing, IsResumed, behind, next_object, with_objects}

pub Used-none : (l : Option (List ℕ)) → Used l l []
Used-none None = tt
Used-none (Some a) = refl

Used-join : (l m n : Option (List ℕ)) (xs ys : List ℕ) → Used l m xs → Used m n ys → Used l n (xs ++ ys)
Used-join None None None xs ys u v = tt
Used-join (Some a) (Some b) (Some c) xs ys u v = u ∙ ap (λ s. xs ++ s) v ∙ sym (append_assoc xs ys c)
Used-join None (Some b) n xs ys u v = absurd u
Used-join (Some a) None n xs ys u v = absurd u
Used-join None None (Some c) xs ys u v = absurd v
Used-join (Some a) (Some b) None xs ys u v = absurd v

pub IsTaken-none : (s : Supply) → IsTaken [] 0 s s
IsTaken-none s = record { left = Used-none s.left; given = omega arith; dry = omega arith; used = sym (append-nil s.used); ended = λ e. absurd (omega (arith, e)) }

pub IsTaken-join : (xs ys : List ℕ) (k : ℕ) (s t u : Supply) → IsTaken xs 0 s t → IsTaken ys k t u → IsTaken (xs ++ ys) k s u
IsTaken-join xs ys k s t u a b = record {
  left = Used-join s.left t.left u.left xs ys a.left b.left;
  given = omega (arith, length-append xs ys, a.given, b.given);
  dry = omega (arith, a.dry, b.dry);
  used = b.used ∙ ap (λ l. l ++ ys) a.used ∙ append_assoc s.used xs ys;
  ended = b.ended;
}

pub told-append : (xs ys : List Note) (h : Hearing) → told (xs ++ ys) h ≡ told ys (told xs h)
told-append [] ys h = refl
told-append (x ∷ xs) ys h = told-append xs ys (noted x h)

told-events : (xs ys : List Event) (h k l : Hearing) → k ≡ told (map Did xs) h → l ≡ told (map Did ys) k → l ≡ told (map Did (xs ++ ys)) h
told-events xs ys h k l a b = b ∙ ap (told (map Did ys)) a ∙ rw map-append (sym (told-append (map Did xs) (map Did ys) h))

after-nil : {A : Type 0} (d : Drawn A) → after [] d ≡ d
after-nil (Drew v r es) = refl
after-nil (Dry es) = refl

after-after : {A : Type 0} (xs ys : List Event) (d : Drawn A) → after xs (after ys d) ≡ after (xs ++ ys) d
after-after xs ys (Drew v r es) = ap (λ l. Drew v r l) (sym (append_assoc xs ys es))
after-after xs ys (Dry es) = ap Dry (sym (append_assoc xs ys es))

happened-after : {A : Type 0} (xs : List Event) (d : Drawn A) → happened (after xs d) ≡ xs ++ happened d
happened-after xs (Drew v r es) = refl
happened-after xs (Dry es) = refl

happened-bind : {A B : Type 0} (d : Drawn A) (f : A → Draws B) → (more : List Event) × (happened (bind d f) ≡ happened d ++ more)
happened-bind (Drew v r es) f = (happened (f v r), happened-after es (f v r))
happened-bind (Dry es) f = ([], sym (append-nil es))

pub resumed_none : {A : Type 0} (w : Draws A) (s : Supply) (h : Hearing) → IsResumed w w s s h h
resumed_none w s h = record { numbers = []; events = []; goes = λ rest. sym (after-nil (w rest)); taken = IsTaken-none s; heard = refl }

-- a value of the rest is drawn
pub resumed_more : {A B : Type 0} (w r : Draws A) (d : Draws B) (f : B → Draws A) (v : B) (s t u : Supply) (h k l : Hearing)
    → IsResumed w r s t h k → ((choices : List ℕ) → r choices ≡ (d >>= f) choices) → HasDrawn d v t u k l → IsResumed w (f v) s u h l
resumed_more w r d f v s t u h k l p e q = record {
  numbers = p.numbers ++ q.numbers;
  events = p.events ++ q.events;
  goes = λ rest.
      ap w (append_assoc p.numbers q.numbers rest)
      ∙ p.goes (q.numbers ++ rest)
      ∙ ap (after p.events) (e (q.numbers ++ rest) ∙ ap (λ x. bind x f) (q.drew rest))
      ∙ after-after p.events q.events (f v rest);
  taken = IsTaken-join p.numbers q.numbers 0 s t u p.taken q.taken;
  heard = told-events p.events q.events h k l p.heard q.heard;
}

-- an event of the rest is told
pub resumed_told : {A : Type 0} (w r r' : Draws A) (event : Event) (s t : Supply) (h k l : Hearing)
    → IsResumed w r s t h k → ((choices : List ℕ) → r choices ≡ tell event r' choices) → l ≡ happens event k → IsResumed w r' s t h l
resumed_told w r r' event s t h k l p e q = record {
  numbers = p.numbers;
  events = p.events ++ event ∷ [];
  goes = λ rest. p.goes rest ∙ ap (after p.events) (e rest) ∙ after-after p.events (event ∷ []) (r' rest);
  taken = p.taken;
  heard = told-events p.events (event ∷ []) h k l p.heard q;
}

-- the rest is a value
pub resumed_done : {A : Type 0} (w r : Draws A) (v : A) (s t : Supply) (h k : Hearing)
    → IsResumed w r s t h k → ((choices : List ℕ) → r choices ≡ give v choices) → HasDrawn w v s t h k
resumed_done w r v s t h k p e = record {
  numbers = p.numbers;
  events = p.events;
  drew = λ rest. p.goes rest ∙ ap (after p.events) (e rest) ∙ ap (λ l. Drew v rest l) (append-nil p.events);
  taken = p.taken;
  heard = p.heard;
}

-- the choices end in the rest
pub resumed_dry : {A B : Type 0} (w r : Draws A) (d : Draws B) (f : B → Draws A) (s t u : Supply) (h k l : Hearing)
    → IsResumed w r s t h k → ((choices : List ℕ) → r choices ≡ (d >>= f) choices) → RanDry d t u k l → RanDry w s u h l
resumed_dry w r d f s t u h k l p e q = record {
  numbers = p.numbers ++ q.numbers;
  events = p.events ++ q.events;
  ended = p.goes q.numbers ∙ ap (after p.events) (e q.numbers ∙ ap (λ x. bind x f) q.ended);
  taken = IsTaken-join p.numbers q.numbers 1 s t u p.taken q.taken;
  heard = told-events p.events q.events h k l p.heard q.heard;
}

front-join : (xs ys all part : List Event) → all ≡ xs ++ part → (more : List Event) × (part ≡ ys ++ more) → (more : List Event) × (all ≡ (xs ++ ys) ++ more)
front-join xs ys all part e f = (f.0, e ∙ ap (λ l. xs ++ l) f.1 ∙ sym (append_assoc xs ys f.0))

front-bind : {A B : Type 0} (d : Drawn A) (f : A → Draws B) (ys : List Event) → (more : List Event) × (happened d ≡ ys ++ more) → (more : List Event) × (happened (bind d f) ≡ ys ++ more)
front-bind d f ys p =
    let q = happened-bind d f in
    (p.0 ++ q.0, q.1 ∙ ap (λ l. l ++ q.0) p.1 ∙ append_assoc ys p.0 q.0)

-- memory is wanting in the rest, or between its parts
pub resumed_cut : {A B : Type 0} (w r : Draws A) (d : Draws B) (f : B → Draws A) (s t u : Supply) (h k l : Hearing)
    → IsResumed w r s t h k → ((choices : List ℕ) → r choices ≡ (d >>= f) choices) → BrokeOff d t u k l → BrokeOff w s u h l
resumed_cut w r d f s t u h k l p e q = record {
  numbers = p.numbers ++ q.numbers;
  events = p.events ++ q.events;
  front = λ rest.
      let g : happened (w ((p.numbers ++ q.numbers) ++ rest)) ≡ p.events ++ happened (bind (d (q.numbers ++ rest)) f) =
      ap (λ n. happened (w n)) (append_assoc p.numbers q.numbers rest)
      ∙ ap happened (p.goes (q.numbers ++ rest) ∙ ap (after p.events) (e (q.numbers ++ rest)))
      ∙ happened-after p.events (bind (d (q.numbers ++ rest)) f) in
      front-join p.events q.events _ _ g (front-bind (d (q.numbers ++ rest)) f q.events (q.front rest));
  taken = IsTaken-join p.numbers q.numbers 0 s t u p.taken q.taken;
  heard = told-events p.events q.events h k l p.heard q.heard;
}

pub resumed_stop : {A : Type 0} (w r : Draws A) (s t : Supply) (h k : Hearing) → IsResumed w r s t h k → BrokeOff w s t h k
resumed_stop w r s t h k p = record {
  numbers = p.numbers;
  events = p.events;
  front = λ rest. (happened (r rest), ap happened (p.goes rest) ∙ happened-after p.events (r rest));
  taken = p.taken;
  heard = p.heard;
}

pub broke_at_once : {A : Type 0} (w : Draws A) (s : Supply) (h : Hearing) → BrokeOff w s s h h
broke_at_once w s h = resumed_stop w w s s h h (resumed_none w s h)

bind-give : {A : Type 0} (d : Drawn A) → bind d give ≡ d
bind-give (Drew v r es) = ap (λ l. Drew v r l) (append-nil es)
bind-give (Dry es) = refl

-- what is drawn last ends the whole
pub resumed_last : {V A E : Type 0} (view : V → A) (w r : Draws A) (result : Result (Option V) E) (s t u : Supply) (h k l : Hearing)
    → IsResumed w r s t h k → IsDrawing view r result t u k l → IsDrawing view w result s u h l
resumed_last view w r (Ok (Some v)) s t u h k l p q =
    resumed_done w (give (view v)) (view v) s u h l (resumed_more w r r give (view v) s t u h k l p (λ choices. sym (bind-give (r choices))) q) (λ choices. refl)
resumed_last view w r (Ok None) s t u h k l p q = resumed_dry w r r give s t u h k l p (λ choices. sym (bind-give (r choices))) q
resumed_last view w r (Err e) s t u h k l p q = resumed_cut w r r give s t u h k l p (λ choices. sym (bind-give (r choices))) q

after-bind : {A B : Type 0} (xs : List Event) (d : Drawn A) (f : A → Draws B) → bind (after xs d) f ≡ after xs (bind d f)
after-bind xs (Drew v r es) f = sym (after-after xs es (f v r))
after-bind xs (Dry es) f = refl

bind-bind : {A B C : Type 0} (d : Drawn A) (f : A → Draws B) (g : B → Draws C) → bind (bind d f) g ≡ bind d (λ v. f v >>= g)
bind-bind (Drew v r es) f g = after-bind es (f v r) g
bind-bind (Dry es) f g = refl

bind-same : {A B : Type 0} (d : Drawn A) (f g : A → Draws B) → ((v : A) (choices : List ℕ) → f v choices ≡ g v choices) → bind d f ≡ bind d g
bind-same (Drew v r es) f g e = ap (after es) (e v r)
bind-same (Dry es) f g e = refl

-- a member of a list is drawn behind a front, and then the others
pub behind-more : {A B : Type 0} (front : List A) (d : Draws B) (g : B → A) (f : Draws (List A)) (choices : List ℕ)
    → behind front (d >>= λ x. f >>= λ xs. give (g x ∷ xs)) choices ≡ (d >>= λ x. behind (front ++ g x ∷ []) f) choices
behind-more front d g f choices =
    bind-bind (d choices) (λ x. f >>= λ xs. give (g x ∷ xs)) (λ more. give (front ++ more))
    ∙ bind-same (d choices) _ _
    (λ x rest. bind-bind (f rest) (λ xs. give (g x ∷ xs)) (λ more. give (front ++ more))
    ∙ bind-same (f rest) _ _ (λ xs last. ap (λ l. Drew l last []) (sym (append_assoc front (g x ∷ []) xs))))

pub behind-none : {A : Type 0} (d : Draws (List A)) (choices : List ℕ) → d choices ≡ behind [] d choices
behind-none d choices = sym (bind-give (d choices))

pub behind-end : {A : Type 0} (front : List A) (choices : List ℕ) → behind front (give []) choices ≡ give front choices
behind-end front choices = ap (λ l. Drew l choices []) (append-nil front)

pub resumed_same : {A : Type 0} (w r r' : Draws A) (s t : Supply) (h k : Hearing)
    → IsResumed w r s t h k → ((choices : List ℕ) → r choices ≡ r' choices) → IsResumed w r' s t h k
resumed_same w r r' s t h k p e = record {
  numbers = p.numbers;
  events = p.events;
  goes = λ rest. p.goes rest ∙ ap (after p.events) (e rest);
  taken = p.taken;
  heard = p.heard;
}

-- One number ------------------------------------------------------------------------------------------------------

Used-dry : (a b : Option (List ℕ)) → Takes a b None → Used a b []
Used-dry None None t = tt
Used-dry (Some a) (Some b) t = t.0 ∙ sym t.1
Used-dry None (Some b) t = absurd t
Used-dry (Some a) None t = absurd t

ended-dry : (a b : Option (List ℕ)) → Takes a b None → IfSome b (λ rest. rest ≡ [])
ended-dry None None t = tt
ended-dry (Some a) (Some b) t = t.1
ended-dry None (Some b) t = absurd t
ended-dry (Some a) None t = tt

Used-one : (a b : Option (List ℕ)) (x : ℕ) → Takes a b (Some x) → Used a b (x ∷ [])
Used-one None None x t = tt
Used-one (Some a) (Some b) x t = t
Used-one None (Some b) x t = absurd t
Used-one (Some a) None x t = absurd t

pub IsTaken-dry : (l l' : Option (List ℕ)) (g g' d d' : ℕ) (u u' : List ℕ) → Takes l l' None → Counted g g' d d' None → u' ≡ u → IsTaken [] 1 (supply l g d u) (supply l' g' d' u')
IsTaken-dry l l' g g' d d' u u' t c e = record { left = Used-dry l l' t; given = omega (arith, c.0); dry = c.1; used = e ∙ sym (append-nil u); ended = λ n. ended-dry l l' t }

pub IsTaken-one : (l l' : Option (List ℕ)) (g g' d d' x : ℕ) (u u' : List ℕ) → Takes l l' (Some x) → Counted g g' d d' (Some x) → u' ≡ u ++ x ∷ [] → IsTaken (x ∷ []) 0 (supply l g d u) (supply l' g' d' u')
IsTaken-one l l' g g' d d' x u u' t c e = record { left = Used-one l l' x t; given = c.0; dry = omega (arith, c.1); used = e; ended = λ n. absurd (omega (arith, n)) }

pub dry-one : (k : ℕ) (s s' : Supply) (h : Hearing) → IsTaken [] 1 s s' → RanDry (draw k) s s' h h
dry-one k s s' h t = record { numbers = []; events = []; ended = refl; taken = t; heard = refl }

pub drawn-one : (k x v : ℕ) (s s' : Supply) (h h' : Hearing) → v ≡ x % k → IsTaken (x ∷ []) 0 s s' → h' ≡ happens (Draw x) h → HasDrawn (draw k) v s s' h h'
drawn-one k x v s s' h h' e t n = record {
  numbers = x ∷ [];
  events = Draw x ∷ [];
  drew = λ rest. ap (λ v. Drew v rest (Draw x ∷ [])) (sym e);
  taken = t;
  heard = n;
}

-- Lists -----------------------------------------------------------------------------------------------------------

pub bytes-more : (front : List ℕ) (m n : ℕ) → m ≡ suc n → (choices : List ℕ) → behind front (draw_bytes m) choices ≡ (draw 256 >>= λ x. behind (front ++ x ∷ []) (draw_bytes n)) choices
bytes-more front m n e choices = rw e (behind-more front (draw 256) (λ x. x) (draw_bytes n) choices)

pub bytes-end : (front : List ℕ) (m : ℕ) → m ≡ 0 → (choices : List ℕ) → behind front (draw_bytes m) choices ≡ give front choices
bytes-end front m e choices = rw e (behind-end front choices)

pub arguments-more : (front : List ℤ) (m n : ℕ) → m ≡ suc n → (choices : List ℕ) → behind front (draw_arguments m) choices ≡ (draw_value S32 >>= λ x. behind (front ++ x ∷ []) (draw_arguments n)) choices
arguments-more front m n e choices = rw e (behind-more front (draw_value S32) (λ x. x) (draw_arguments n) choices)

pub arguments-end : (front : List ℤ) (m : ℕ) → m ≡ 0 → (choices : List ℕ) → behind front (draw_arguments m) choices ≡ give front choices
arguments-end front m e choices = rw e (behind-end front choices)

pub statics-more : (front : Memory) (all rest : List ℕ) (size : ℕ) → all ≡ size ∷ rest → (choices : List ℕ)
    → behind front (static_objects all) choices ≡ (draw_bytes size >>= λ bytes. behind (front ++ holding Static bytes ∷ []) (static_objects rest)) choices
statics-more front all rest size e choices = rw e (behind-more front (draw_bytes size) (holding Static) (static_objects rest) choices)

pub statics-start : (sizes : List ℕ) (choices : List ℕ) → static_objects sizes choices ≡ behind [] (static_objects sizes) choices
statics-start sizes choices = behind-none (static_objects sizes) choices

pub statics-end : (front : Memory) (all : List ℕ) → all ≡ [] → (choices : List ℕ) → behind front (static_objects all) choices ≡ give front choices
statics-end front all e choices = rw e (behind-end front choices)

-- Objects ---------------------------------------------------------------------------------------------------------

pub drawn-dead : (number : ℕ) (kind : ObjKind) (o : Object) (s : Supply) (h h' : Hearing) → o ≡ dead kind → h' ≡ happens (Create number) h → HasDrawn (dead_object number kind) o s s h h'
drawn-dead number kind o s h h' e n =
    resumed_done (dead_object number kind) (give (dead kind)) o s s h h'
    (resumed_told (dead_object number kind) (dead_object number kind) (give (dead kind)) (Create number) s s h h h' (resumed_none (dead_object number kind) s h) (λ choices. refl) n)
    (λ choices. ap (λ v. Drew v choices []) (sym e))

pub first-sort : (sorts : Sorts) (number : ℕ) → object_of sorts number 0 ≡ dead_object number Heap
first-sort Outside number = refl
first-sort New number = refl

pub second-sort : (sorts : Sorts) (number : ℕ) → object_of sorts number 1 ≡ dead_object number Stack
second-sort Outside number = refl
second-sort New number = refl

after_object : (sorts : Sorts) (m : Memory) (o : Object) (n : ℕ) (choices : List ℕ)
    → ((drawn_objects (count_of sorts) (object_of sorts) (suc (suc (length m))) n >>= λ objects. give (o ∷ objects)) >>= λ objects. give (m ++ objects)) choices ≡ with_objects sorts (m ++ o ∷ []) n choices
after_object sorts m o n choices =
    let D = drawn_objects (count_of sorts) (object_of sorts) in
    let e : length (m ++ o ∷ []) ≡ suc (length m) = omega (arith, length-append m (o ∷ [])) in
    bind-bind (D (suc (suc (length m))) n choices) (λ objects. give (o ∷ objects)) (λ objects. give (m ++ objects))
    ∙ bind-same (D (suc (suc (length m))) n choices) _ _ (λ objects rest. ap (λ l. Drew l rest []) (sym (append_assoc m (o ∷ []) objects)))
    ∙ ap (λ k. (D (suc k) n >>= λ objects. give ((m ++ o ∷ []) ++ objects)) choices) (sym e)

pub objects-more : (sorts : Sorts) (m : Memory) (number k n : ℕ) → number ≡ suc (length m) → k ≡ suc n → (choices : List ℕ)
    → with_objects sorts m k choices ≡ (next_object sorts number >>= λ o. with_objects sorts (m ++ o ∷ []) n) choices
objects-more sorts m number k n i e choices =
    let F = λ (sort : ℕ). object_of sorts (suc (length m)) sort in
    let G = λ (o : Object). drawn_objects (count_of sorts) (object_of sorts) (suc (suc (length m))) n >>= λ objects. give (o ∷ objects) in
    let H = λ (objects : Memory). give (m ++ objects) in
    let K = λ (o : Object). with_objects sorts (m ++ o ∷ []) n in
    rw (i, e) (
    bind-bind (draw (count_of sorts) choices) (λ sort. F sort >>= G) H
    ∙ bind-same (draw (count_of sorts) choices) _ _
    (λ sort rest. bind-bind (F sort rest) G H ∙ bind-same (F sort rest) (λ o. G o >>= H) K (λ o last. after_object sorts m o n last))
    ∙ sym (bind-bind (draw (count_of sorts) choices) F K)
    )

pub objects-end : (sorts : Sorts) (m : Memory) (k : ℕ) → k ≡ 0 → (choices : List ℕ) → with_objects sorts m k choices ≡ give m choices
objects-end sorts m k e choices = rw e (ap (λ l. Drew l choices []) (append-nil m))

-- Results ---------------------------------------------------------------------------------------------------------

-- a result that wants memory
pub drawing_cut : {V A E : Type 0} (view : V → A) (draws : Draws A) (result : Result (Option V) E) (s s' : Supply) (h h' : Hearing)
    → IsErr result → BrokeOff draws s s' h h' → IsDrawing view draws result s s' h h'
drawing_cut view draws (Ok o) s s' h h' e b = cc
drawing_cut view draws (Err e) s s' h h' i b = b

pub bytes-start : (n m : ℕ) → m ≡ n → (choices : List ℕ) → draw_bytes n choices ≡ behind [] (draw_bytes m) choices
bytes-start n m e choices = rw e (behind-none (draw_bytes n) choices)

pub arguments-start : (n m : ℕ) → m ≡ n → (choices : List ℕ) → draw_arguments n choices ≡ behind [] (draw_arguments m) choices
arguments-start n m e choices = rw e (behind-none (draw_arguments n) choices)

pub objects-start : (sorts : Sorts) (m : Memory) (n k : ℕ) → k ≡ n → (choices : List ℕ) → with_objects sorts m n choices ≡ with_objects sorts m k choices
objects-start sorts m n k e choices = rw e refl
