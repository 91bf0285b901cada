-- Expressions that are asked in turn.
use Rattle.std.proofs.Common.{◌≡◌, ℕ, ℤ, List, [], ◌∷◌, ◌++◌, map, Option, Some, None, refl, ap, sym, ◌∙◌, append_assoc, append-nil}
use Rattle.std.specs.Prelude.{option_map}
use Rattle.std.proofs.lemmas.List.{map-append}
use Rattle.dc_core.specs.Event.{Undefined}
use Rattle.dc_core.specs.Term.{Term}
use Rattle.dc_goto.specs.Values.{term_value}
use Rattle.dc_goto.specs.Acts.{Now, Then, Ends, asked, evaluated, when_asked, defined, given, all_given, surroundings}
use Rattle.dc_machine.specs.Asking.{IsAsked, AreAsked, AreAskedThree, AreGivenTwo, AreGivenThree, AreAllGiven}

pub asked-is : (s : Now) (e : Term) (v : Option ℤ) (seen : List ℕ) (go : Option ℤ → Now → Then) → term_value (surroundings s) [] e s.seen ≡ record { value = v; seen = seen } → asked s e go ≡ go v (record s { seen = seen })
asked-is s e v seen go h = ap (λ x. when_asked s x go) h

-- the same of an expression that has to have a value
pub given-is : (a : Term) (v : Option ℤ) (old new : List ℕ → Now) (name choices : List ℕ) (go : ℤ → Now → Then) → IsAsked a v old new
    → given name (old choices) a go ≡ defined name v (new choices) (λ z. go z (new choices))
given-is a v old new name choices go h = h choices (λ v t. defined name v t (λ z. go z t))

pub asked-two : (a b : Term) (v w : Option ℤ) (old mid new : List ℕ → Now) → IsAsked a v old mid → IsAsked b w mid new → AreAsked a b v w old new
asked-two a b v w old mid new g h = λ choices go. g choices (λ x s. asked s b (λ y t. go x y t)) ∙ h choices (λ y t. go v y t)

pub asked-three : (a b c : Term) (v w x : Option ℤ) (old mid far new : List ℕ → Now) → IsAsked a v old mid → IsAsked b w mid far → IsAsked c x far new → AreAskedThree a b c v w x old new
asked-three a b c v w x old mid far new g h k = λ choices go.
    g choices (λ y s. asked s b (λ z t. asked t c (λ n u. go y z n u))) ∙ h choices (λ z t. asked t c (λ n u. go v z n u)) ∙ k choices (λ n u. go v w n u)

pub first-none : (a b : Term) (v : Option ℤ) (old new : List ℕ → Now) → IsAsked a v old new → v ≡ None → AreGivenTwo a b None old new
first-none a b v old new h e = λ name choices go.
    given-is a v old new name choices (λ x s. given name s b (λ y t. go x y t)) h ∙ ap (λ v. defined name v (new choices) (λ x. given name (new choices) b (λ y t. go x y t))) e

pub second-asked : (a b : Term) (v w : Option ℤ) (x : ℤ) (old mid new : List ℕ → Now) → IsAsked a v old mid → v ≡ Some x → IsAsked b w mid new → (name choices : List ℕ) (go : ℤ → ℤ → Now → Then)
    → given name (old choices) a (λ x s. given name s b (λ y t. go x y t)) ≡ defined name w (new choices) (λ y. go x y (new choices))
second-asked a b v w x old mid new g e h name choices go =
    given-is a v old mid name choices (λ x s. given name s b (λ y t. go x y t)) g
    ∙ ap (λ v. defined name v (mid choices) (λ x. given name (mid choices) b (λ y t. go x y t))) e
    ∙ given-is b w mid new name choices (λ y t. go x y t) h

pub second-none : (a b : Term) (v w : Option ℤ) (x : ℤ) (old mid new : List ℕ → Now) → IsAsked a v old mid → v ≡ Some x → IsAsked b w mid new → w ≡ None → AreGivenTwo a b None old new
second-none a b v w x old mid new g e h f = λ name choices go.
    second-asked a b v w x old mid new g e h name choices go ∙ ap (λ w. defined name w (new choices) (λ y. go x y (new choices))) f

pub both-given : (a b : Term) (v w : Option ℤ) (x y : ℤ) (old mid new : List ℕ → Now) → IsAsked a v old mid → v ≡ Some x → IsAsked b w mid new → w ≡ Some y → AreGivenTwo a b (Some (x, y)) old new
both-given a b v w x y old mid new g e h f = λ name choices go.
    second-asked a b v w x old mid new g e h name choices go ∙ ap (λ w. defined name w (new choices) (λ y. go x y (new choices))) f

pub two-none : (a b c : Term) (o : Option (ℤ × ℤ)) (old new : List ℕ → Now) → AreGivenTwo a b o old new → o ≡ None → AreGivenThree a b c None old new
two-none a b c o old new h e = λ name choices go.
    h name choices (λ x y t. given name t c (λ z u. go x y z u)) ∙ ap (λ o. defined name o (new choices) (λ v. given name (new choices) c (λ z u. go v.0 v.1 z u))) e

pub third-asked : (a b c : Term) (o : Option (ℤ × ℤ)) (w : Option ℤ) (x y : ℤ) (old mid new : List ℕ → Now) → AreGivenTwo a b o old mid → o ≡ Some (x, y) → IsAsked c w mid new
    → (name choices : List ℕ) (go : ℤ → ℤ → ℤ → Now → Then)
    → given name (old choices) a (λ x s. given name s b (λ y t. given name t c (λ z u. go x y z u))) ≡ defined name w (new choices) (λ z. go x y z (new choices))
third-asked a b c o w x y old mid new g e h name choices go =
    g name choices (λ x y t. given name t c (λ z u. go x y z u))
    ∙ ap (λ o. defined name o (mid choices) (λ v. given name (mid choices) c (λ z u. go v.0 v.1 z u))) e
    ∙ given-is c w mid new name choices (λ z u. go x y z u) h

pub third-none : (a b c : Term) (o : Option (ℤ × ℤ)) (w : Option ℤ) (x y : ℤ) (old mid new : List ℕ → Now) → AreGivenTwo a b o old mid → o ≡ Some (x, y) → IsAsked c w mid new → w ≡ None
    → AreGivenThree a b c None old new
third-none a b c o w x y old mid new g e h f = λ name choices go.
    third-asked a b c o w x y old mid new g e h name choices go ∙ ap (λ w. defined name w (new choices) (λ z. go x y z (new choices))) f

pub all-three : (a b c : Term) (o : Option (ℤ × ℤ)) (w : Option ℤ) (x y z : ℤ) (old mid new : List ℕ → Now) → AreGivenTwo a b o old mid → o ≡ Some (x, y) → IsAsked c w mid new → w ≡ Some z
    → AreGivenThree a b c (Some (x, y, z)) old new
all-three a b c o w x y z old mid new g e h f = λ name choices go.
    third-asked a b c o w x y old mid new g e h name choices go ∙ ap (λ w. defined name w (new choices) (λ z. go x y z (new choices))) f

-- Arguments --------------------------------------------------------------------------------------------------------

-- the first values were given, and the other expressions are still to be asked
pub record IsAlongside (all others : List Term) (held : List (Option ℤ)) (old now : List ℕ → Now) : Type 0 where
  pub values : List ℤ
  pub same : held ≡ map Some values
  pub come : (name choices : List ℕ) (go : List ℤ → Now → Then) → all_given name (old choices) all go ≡ all_given name (now choices) others (λ more t. go (values ++ more) t)

pub none-given : (all : List Term) (old : List ℕ → Now) → IsAlongside all all [] old old
none-given all old = record { values = []; same = refl; come = λ name choices go. refl }

defined-same : {A : Type 0} (name : List ℕ) (o : Option A) (s : Now) (go go' : A → Then) → ((v : A) → go v ≡ go' v) → defined name o s go ≡ defined name o s go'
defined-same name None s go go' h = refl
defined-same name (Some v) s go go' h = h v

all-same : (name : List ℕ) (s : Now) (others : List Term) (go go' : List ℤ → Now → Then) → ((values : List ℤ) (t : Now) → go values t ≡ go' values t) → all_given name s others go ≡ all_given name s others go'
all-same name s [] go go' h = h [] s
all-same name s (e ∷ others) go go' h =
    let t = record s { seen = (evaluated s e).seen } in
    defined-same name (evaluated s e).value t (λ v. all_given name t others (λ values u. go (v ∷ values) u)) (λ v. all_given name t others (λ values u. go' (v ∷ values) u))
    (λ v. all-same name t others (λ values u. go (v ∷ values) u) (λ values u. go' (v ∷ values) u) (λ values u. h (v ∷ values) u))

-- an expression with a value, and one without
pub given-some : (a : Term) (v : Option ℤ) (x : ℤ) (old new : List ℕ → Now) (name choices : List ℕ) (go : ℤ → Now → Then) → IsAsked a v old new → v ≡ Some x
    → given name (old choices) a go ≡ go x (new choices)
given-some a v x old new name choices go h e = given-is a v old new name choices go h ∙ ap (λ v. defined name v (new choices) (λ z. go z (new choices))) e

pub given-none : (a : Term) (v : Option ℤ) (old new : List ℕ → Now) (name choices : List ℕ) (go : ℤ → Now → Then) → IsAsked a v old new → v ≡ None
    → given name (old choices) a go ≡ Ends [] (Undefined name) (new choices).world
given-none a v old new name choices go h e = given-is a v old new name choices go h ∙ ap (λ v. defined name v (new choices) (λ z. go z (new choices))) e

all-first : (all others rest : List Term) (held : List (Option ℤ)) (e : Term) (old mid : List ℕ → Now) (l : IsAlongside all others held old mid) → others ≡ e ∷ rest → (name choices : List ℕ) (go : List ℤ → Now → Then)
    → all_given name (old choices) all go ≡ given name (mid choices) e (λ v t. all_given name t rest (λ values u. go (l.values ++ v ∷ values) u))
all-first all others rest held e old mid l first name choices go = l.come name choices go ∙ ap (λ others. all_given name (mid choices) others (λ more t. go (l.values ++ more) t)) first

pub alongside-more : (all others rest : List Term) (held : List (Option ℤ)) (e : Term) (v : Option ℤ) (x : ℤ) (old mid new : List ℕ → Now)
    → IsAlongside all others held old mid → others ≡ e ∷ rest → IsAsked e v mid new → v ≡ Some x → IsAlongside all rest (held ++ Some x ∷ []) old new
alongside-more all others rest held e v x old mid new l first h some = record {
  values = l.values ++ x ∷ [];
  same = ap (λ held. held ++ Some x ∷ []) l.same ∙ sym (map-append Some l.values (x ∷ []));
  come = λ name choices go.
      all-first all others rest held e old mid l first name choices go
      ∙ given-some e v x mid new name choices (λ v t. all_given name t rest (λ values u. go (l.values ++ v ∷ values) u)) h some
      ∙ all-same name (new choices) rest _ _ (λ values t. ap (λ values. go values t) (sym (append_assoc l.values (x ∷ []) values)));
}

pub alongside-none : (all others rest : List Term) (held : List (Option ℤ)) (e : Term) (v : Option ℤ) (old mid new : List ℕ → Now)
    → IsAlongside all others held old mid → others ≡ e ∷ rest → IsAsked e v mid new → v ≡ None → AreAllGiven all None old new
alongside-none all others rest held e v old mid new l first h none = record {
  values = None;
  same = refl;
  come = λ name choices go.
      all-first all others rest held e old mid l first name choices go
      ∙ given-none e v mid new name choices (λ v t. all_given name t rest (λ values u. go (l.values ++ v ∷ values) u)) h none;
}

pub alongside-end : (all others : List Term) (held : List (Option ℤ)) (old new : List ℕ → Now) → IsAlongside all others held old new → others ≡ [] → AreAllGiven all (Some held) old new
alongside-end all others held old new l none = record {
  values = Some l.values;
  same = ap Some l.same;
  come = λ name choices go.
      l.come name choices go
      ∙ ap (λ others. all_given name (new choices) others (λ more t. go (l.values ++ more) t)) none
      ∙ ap (λ values. go values (new choices)) (append-nil l.values);
}

-- of some arguments one has no value
pub values-none : (all : List Term) (o : Option (List (Option ℤ))) (old new : List ℕ → Now) (name choices : List ℕ) (go : List ℤ → Now → Then) → AreAllGiven all o old new → o ≡ None
    → all_given name (old choices) all go ≡ Ends [] (Undefined name) (new choices).world
values-none all o old new name choices go h e = by h.values (sym h.same ∙ e) (h.come name choices go)
  where
    by : (values : Option (List ℤ)) → option_map (map Some) values ≡ None → all_given name (old choices) all go ≡ defined name values (new choices) (λ vs. go vs (new choices))
        → all_given name (old choices) all go ≡ Ends [] (Undefined name) (new choices).world
    by None e f = f
    by (Some vs) e f = cc

-- the values of arguments that stand as registers hold them
pub record HasValues (all : List Term) (items : List (Option ℤ)) (old new : List ℕ → Now) : Type 0 where
  pub values : List ℤ
  pub same : items ≡ map Some values
  pub come : (name choices : List ℕ) (go : List ℤ → Now → Then) → all_given name (old choices) all go ≡ go values (new choices)

pub values-some : (all : List Term) (o : Option (List (Option ℤ))) (items : List (Option ℤ)) (old new : List ℕ → Now) → AreAllGiven all o old new → o ≡ Some items → HasValues all items old new
values-some all o items old new h e = by h.values (sym e ∙ h.same) h.come
  where
    by : (values : Option (List ℤ)) → Some items ≡ option_map (map Some) values
        → ((name choices : List ℕ) (go : List ℤ → Now → Then) → all_given name (old choices) all go ≡ defined name values (new choices) (λ vs. go vs (new choices))) → HasValues all items old new
    by None e f = cc
    by (Some vs) e f =
        let same : items ≡ map Some vs = cc in
        record { values = vs; same = same; come = f }
