-- Something at least as long is read, and a tree itself where reading stops behind it.
use Rattle.std.proofs.Common.{◌≡◌, ℕ, zero, suc, ◌+◌, ◌<◌, ◌≤◌, Bool, true, false, if◌then◌else◌, List, [], ◌∷◌, length, refl, sym, ap, ◌∙◌, arith}
use Rattle.std.proofs.lemmas.Bool.Decides.{nat_tests}
use Rattle.std.specs.Prelude.{nat_le}
use Rattle.dc_syntax.specs.Tokens.{Word, Named, Token, Place, is_word}
use Rattle.dc_syntax.specs.Trees.{Tree, height}
use Rattle.dc_syntax.specs.Reading.{Out, Nothing, Found, next, kept, checked, between, found, begins, eat, named_at, named, loop, once}
use Rattle.dc_syntax.proofs.Words.{word_is, false-true}
use Rattle.dc_syntax.proofs.Base.{First, Gives, gives_nothing, gives_if}

-- steps of the readers
pub next_is : {A B : Type 0} {o : Out A} {e : A} {rest : List Token} (go : A → List Token → Out B) → o ≡ Found e rest → next o go ≡ go e rest
next_is go e = ap (λ o. next o go) e

pub found_is : {A : Type 0} (all : List Token) {rest : List Token} {p : Place} (node : Place → A) → between all rest ≡ p → found all node rest ≡ Found (node p) rest
found_is all {rest} {p} node e = ap (λ p. Found (node p) rest) e

pub if_true : {A : Type 0} {b : Bool} (x y : A) → b ≡ true → (if b then x else y) ≡ x
if_true {A} {b} x y e = ap (λ b. if b then x else y) e

pub if_false : {A : Type 0} {b : Bool} (x y : A) → b ≡ false → (if b then x else y) ≡ y
if_false {A} {b} x y e = ap (λ b. if b then x else y) e

pub checked_is : {A : Type 0} {b : Bool} (x : Out A) → b ≡ true → checked b x ≡ x
checked_is {A} {b} x e = ap (λ b. checked b x) e

pub eat_is : {A : Type 0} {w : Word} {all rest : List Token} (go : List Token → Out A) → First w all rest → is_word w w ≡ true → eat w all go ≡ go rest
eat_is {A} {w} {all} {rest} go f same = ap (λ l. eat w l go) f.whole ∙ (ap (λ u. if is_word w u then go rest else Nothing) f.word ∙ if_true _ _ same)

pub named_is : {A : Type 0} {n : List ℕ} {all rest : List Token} (go : List ℕ → List Token → Out A) → First (Named n) all rest → named all go ≡ go n rest
named_is {A} {n} {all} {rest} go f = ap (λ l. named l go) f.whole ∙ ap (λ w. named_at w rest go) f.word

-- a test of the first word
abbrev pub passes : (Word → Bool) → List Token → Bool
passes f [] = false
passes f (t ∷ ts) = f t.word

pub passes_is : {w : Word} {all rest : List Token} (f : Word → Bool) → First w all rest → passes f all ≡ f w
passes_is {w} {all} {rest} f g = ap (passes f) g.whole ∙ ap f g.word

pub begins_is : {w : Word} {all rest : List Token} (v : Word) → First w all rest → begins v all ≡ is_word v w
begins_is {w} {all} {rest} v g = ap (begins v) g.whole ∙ ap (is_word v) g.word

pub passes_not : (f g : Word → Bool) → ((w : Word) → f w ≡ true → g w ≡ false) → (ts : List Token) → passes f ts ≡ true → passes g ts ≡ false
passes_not f g h [] e = refl
passes_not f g h (t ∷ ts) e = h t.word e

pub passes_so : (f g : Word → Bool) → ((w : Word) → f w ≡ true → g w ≡ true) → (ts : List Token) → passes f ts ≡ true → passes g ts ≡ true
passes_so f g h [] e = absurd (false-true e)
passes_so f g h (t ∷ ts) e = h t.word e

not_both : (b : Bool) → (b ≡ true → ⊥) → b ≡ false
not_both true g = absurd (g refl)
not_both false g = refl

-- another word stands first
pub other_word : (f : Word → Bool) (v w : Word) → f v ≡ false → f w ≡ true → is_word v w ≡ false
other_word f v w other holds = not_both (is_word v w) (λ e. false-true (sym other ∙ (ap f (sym (word_is v w e)) ∙ holds)))

pub begins_other : (f : Word → Bool) (v : Word) (ts : List Token) → f v ≡ false → passes f ts ≡ true → begins v ts ≡ false
begins_other f v [] other holds = refl
begins_other f v (t ∷ ts) other holds = other_word f v t.word other holds

pub record Same (tree' tree : Tree) (rest' rest : List Token) : Type 0 where
  pub trees : tree' ≡ tree
  pub rests : rest' ≡ rest

-- something at least as long is found; and this itself where it stops
pub record Reached (out : Out Tree) (tree : Tree) (rest : List Token) (Stop : Type 0) : Type 0 where
  pub got : Tree
  pub left : List Token
  pub is : out ≡ Found got left
  pub past : length left ≤ length rest
  pub exact : Stop → Same got tree left rest

pub reached_exact : {out : Out Tree} {tree : Tree} {rest : List Token} {S : Type 0} → Reached out tree rest S → S → out ≡ Found tree rest
reached_exact {out} {tree} {rest} {S} r s = let e = r.exact s in r.is ∙ (ap (λ t. Found t r.left) e.trees ∙ ap (λ l. Found tree l) e.rests)

abbrev pub reached_at : {out : Out Tree} {tree : Tree} {rest : List Token} {S : Type 0} → out ≡ Found tree rest → Reached out tree rest S
reached_at {out} {tree} {rest} {S} e = record { got = tree; left = rest; is = e; past = omega arith; exact = λ s. record { trees = refl; rests = refl } }

abbrev pub reached_by : {out out' : Out Tree} {tree : Tree} {rest : List Token} {S S' : Type 0} → out ≡ out' → (S → S') → Reached out' tree rest S' → Reached out tree rest S
reached_by {out} {out'} {tree} {rest} {S} {S'} e f r = record { got = r.got; left = r.left; is = e ∙ r.is; past = r.past; exact = λ s. r.exact (f s) }

-- the last part of a tree is read, and the tree put together
abbrev pub reached_last : (all : List Token) {o : Out Tree} {b : Tree} {rest : List Token} {p : Place} {S : Type 0} (node : Tree → Place → Tree) → between all rest ≡ p → Reached o b rest S
    → Reached (next o (λ b rest. found all (node b) rest)) (node b p) rest S
reached_last all {o} {b} {rest} {p} {S} node e r =
    record {
      got = node r.got (between all r.left);
      left = r.left;
      is = ap (λ o. next o (λ b rest. found all (node b) rest)) r.is;
      past = r.past;
      exact = λ s. let same = r.exact s in record { trees = ap (λ t. node t (between all r.left)) same.trees ∙ (ap (λ l. node b (between all l)) same.rests ∙ ap (node b) e); rests = same.rests };
    }

-- loops
abbrev pub One : Type 0
One = List Token → Tree → List Token → Out Tree

abbrev pub Onward : One → Type 0
Onward one = (all : List Token) (e : Tree) (mid : List Token) → Gives (λ t rest. length rest ≤ length mid) (one all e mid)

pub record Spine (one : One) (h : ℕ) (out : Out Tree) (all : List Token) (tree : Tree) (rest : List Token) (Stop : Type 0) : Type 0 where
  pub n : ℕ
  pub got : Tree
  pub left : List Token
  pub is : out ≡ loop one h n all got left
  pub budget : suc h ≤ n + height got
  pub past : length left ≤ length rest
  pub exact : Stop → Same got tree left rest

pub le-true : (m n : ℕ) → m ≤ n → nat_le m n ≡ true
le-true m n e = grind (arith, nat_tests)

pub kept_is : {o : Out Tree} {e : Tree} {rest : List Token} (keep : Out Tree) (go : Tree → List Token → Out Tree) → o ≡ Found e rest → kept o keep go ≡ go e rest
kept_is keep go e = ap (λ o. kept o keep go) e

pub kept_none : {o : Out Tree} (keep : Out Tree) (go : Tree → List Token → Out Tree) → o ≡ Nothing → kept o keep go ≡ keep
kept_none keep go e = ap (λ o. kept o keep go) e

pub attempt_none : (b : Bool) {x : Out Tree} → x ≡ Nothing → (if b then x else Nothing) ≡ Nothing
attempt_none true e = e
attempt_none false e = refl

loop_stops : (one : One) (h n : ℕ) (all : List Token) (e : Tree) (rest : List Token) → one all e rest ≡ Nothing → loop one h n all e rest ≡ Found e rest
loop_stops one h zero all e rest none = refl
loop_stops one h (suc n) all e rest none = kept_none _ _ (attempt_none (nat_le (height e) h) none)

once_stops : (one : One) (h : ℕ) (all : List Token) (e : Tree) (rest : List Token) → one all e rest ≡ Nothing → once one h all e rest ≡ Found e rest
once_stops one h all e rest none = kept_none _ _ (attempt_none (nat_le (height e) h) none)

-- found, and no further back
pub record Goes (out : Out Tree) (rest : List Token) : Type 0 where
  pub got : Tree
  pub left : List Token
  pub is : out ≡ Found got left
  pub past : length left ≤ length rest

goes_kept : {o : Out Tree} (keep_tree : Tree) {rest : List Token} (go : Tree → List Token → Out Tree) → Gives (λ t left. length left ≤ length rest) o
    → ((t : Tree) (left : List Token) → length left ≤ length rest → Goes (go t left) rest) → Goes (kept o (Found keep_tree rest) go) rest
goes_kept {o} keep_tree {rest} go g f =
    elim o as (λ o. Gives (λ t left. length left ≤ length rest) o → Goes (kept o (Found keep_tree rest) go) rest)
    [ Nothing ↦ λ g. record { got = keep_tree; left = rest; is = refl; past = omega arith } | Found e left ↦ λ g. f e left g.all ] g

loop_goes : (one : One) (h n : ℕ) (all : List Token) (e : Tree) (rest : List Token) → Onward one → Goes (loop one h n all e rest) rest
loop_goes one h zero all e rest on = record { got = e; left = rest; is = refl; past = omega arith }
loop_goes one h (suc n) all e rest on =
    goes_kept e _ (gives_if (λ _. on all e rest) (λ _. gives_nothing)) (λ t left le. let g = loop_goes one h n all t left on in let gp = g.past in record { got = g.got; left = g.left; is = g.is; past = omega (arith, gp, le) })

once_goes : (one : One) (h : ℕ) (all : List Token) (e : Tree) (rest : List Token) → Onward one → Goes (once one h all e rest) rest
once_goes one h all e rest on =
    goes_kept e _ (gives_if (λ _. on all e rest) (λ _. gives_nothing)) (λ t left le. record { got = t; left = left; is = refl; past = le })

-- one turn of a loop
loop_turn : (one : One) (h n : ℕ) (all : List Token) (e : Tree) (mid : List Token) (e' : Tree) (rest : List Token) → suc h ≤ n + height e → height e ≤ h → height e < height e' → one all e mid ≡ Found e' rest
    → (k : ℕ) × (suc h ≤ k + height e') × (loop one h n all e mid ≡ loop one h k all e' rest)
loop_turn one h zero all e mid e' rest b le lt is = absurd (omega (arith, b, le))
loop_turn one h (suc n) all e mid e' rest b le lt is = (n, omega (arith, b, lt), kept_is _ _ (if_true _ _ (le-true (height e) h le) ∙ is))

-- from a tree whose tokens end at mid, to one more operator
pub spine_next : {one : One} {h : ℕ} {out : Out Tree} {all : List Token} {a e : Tree} {mid rest : List Token} {S S' : Type 0}
    → Spine one h out all a mid S → S → height a ≤ h → (r : Reached (one all a mid) e rest S') → height a < height r.got → Spine one h out all e rest S'
spine_next {one} {h} {out} {all} {a} {e} {mid} {rest} {S} {S'} p s le r lt =
    let same = p.exact s in
    let b : suc h ≤ p.n + height a = let pb = p.budget in let eh = ap height same.trees in omega (arith, pb, eh) in
    let t = loop_turn one h p.n all a mid r.got r.left b le lt r.is in
    record { n = t.0; got = r.got; left = r.left; is = p.is ∙ (ap (λ g. loop one h p.n all g p.left) same.trees ∙ (ap (loop one h p.n all a) same.rests ∙ t.2)); budget = t.1; past = r.past; exact = r.exact }

-- the loop's end
pub spine_ends : {one : One} {h : ℕ} {out : Out Tree} {all : List Token} {e : Tree} {rest : List Token} {S S' : Type 0}
    → Spine one h out all e rest S → Onward one → (S' → S) → (S' → one all e rest ≡ Nothing) → Reached out e rest S'
spine_ends {one} {h} {out} {all} {e} {rest} {S} {S'} p on weak none =
    let g = loop_goes one h p.n all p.got p.left on in
    let gp = g.past in let pp = p.past in
    record {
      got = g.got;
      left = g.left;
      is = p.is ∙ g.is;
      past = omega (arith, gp, pp);
      exact = λ s. ended (p.exact (weak s)) (none s) g.is;
    }
  where
    ended : Same p.got e p.left rest → one all e rest ≡ Nothing → {t : Tree} {l : List Token} → loop one h p.n all p.got p.left ≡ Found t l → Same t e l rest
    ended same none {t} {l} is =
        let there : Found t l ≡ Found e rest = sym is ∙ (ap (λ g. loop one h p.n all g p.left) same.trees ∙ (ap (loop one h p.n all e) same.rests ∙ loop_stops one h p.n all e rest none)) in
        record { trees = ap (tree_in e) there; rests = ap (rest_in rest) there }
      where
        tree_in : Tree → Out Tree → Tree
        tree_in d Nothing = d
        tree_in d (Found t l) = t

        rest_in : List Token → Out Tree → List Token
        rest_in d Nothing = d
        rest_in d (Found t l) = l

-- the loop's start: what the level below found
pub spine_starts : {one : One} {h : ℕ} {below : Out Tree} {all : List Token} {e : Tree} {rest : List Token} {S : Type 0} → Reached below e rest S → Spine one h (next below (λ e rest. loop one h (suc h) all e rest)) all e rest S
spine_starts {one} {h} {below} {all} {e} {rest} {S} r =
    record { n = suc h; got = r.got; left = r.left; is = next_is _ r.is; budget = omega arith; past = r.past; exact = r.exact }

-- the same for at most one turn
pub once_ends : (one : One) (h : ℕ) {below : Out Tree} {all : List Token} {e : Tree} {rest : List Token} {S S' : Type 0}
    → Reached below e rest S → Onward one → (S' → S) → (S' → one all e rest ≡ Nothing) → Reached (next below (λ e rest. once one h all e rest)) e rest S'
once_ends one h {below} {all} {e} {rest} {S} {S'} r on weak none =
    let g = once_goes one h all r.got r.left on in
    let gp = g.past in let rp = r.past in
    record {
      got = g.got;
      left = g.left;
      is = next_is _ r.is ∙ g.is;
      past = omega (arith, gp, rp);
      exact = λ s. ended (r.exact (weak s)) (none s) g.is;
    }
  where
    ended : Same r.got e r.left rest → one all e rest ≡ Nothing → {t : Tree} {l : List Token} → once one h all r.got r.left ≡ Found t l → Same t e l rest
    ended same none {t} {l} is =
        let there : Found t l ≡ Found e rest = sym is ∙ (ap (λ g. once one h all g r.left) same.trees ∙ (ap (once one h all e) same.rests ∙ once_stops one h all e rest none)) in
        record { trees = ap (tree_in e) there; rests = ap (rest_in rest) there }
      where
        tree_in : Tree → Out Tree → Tree
        tree_in d Nothing = d
        tree_in d (Found t l) = t

        rest_in : List Token → Out Tree → List Token
        rest_in d Nothing = d
        rest_in d (Found t l) = l

pub once_takes : (one : One) (h : ℕ) {below : Out Tree} {all : List Token} {a e : Tree} {mid rest : List Token} {S S' : Type 0}
    → Reached below a mid S → S → height a ≤ h → Reached (one all a mid) e rest S' → Reached (next below (λ e rest. once one h all e rest)) e rest S'
once_takes one h {below} {all} {a} {e} {mid} {rest} {S} {S'} r s le t =
    reached_by (next_is _ (reached_exact r s) ∙ (kept_is _ _ (if_true _ _ (le-true (height a) h le) ∙ t.is))) (λ s. s) (record { got = t.got; left = t.left; is = refl; past = t.past; exact = t.exact })
