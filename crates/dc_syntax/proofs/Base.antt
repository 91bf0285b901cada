-- Phrases at the front of the tokens, and what readers give.
use Rattle.std.proofs.Common.{◌≡◌, ℕ, ◌-◌, ◌≤◌, Bool, true, false, if◌then◌else◌, ◌||◌, List, [], ◌∷◌, ◌++◌, length, take, refl, sym, ap, ◌∙◌, arith, append_assoc, length-append}
use Rattle.dc_syntax.specs.Tokens.{Word, Named, Literal, Marked, Reserved, Token, Place, place_of}
use Rattle.dc_syntax.specs.Names.{Names}
use Rattle.dc_syntax.specs.Trees.{Tree, Sort, IsExpression, sort_of, level_of, has_type}
use Rattle.dc_syntax.specs.Phrases.{IsEmpty, ◌⊙◌, IsWord, name, Where, Passing, Within, Sorted, Placed, leaves, opens_declarator}
use Rattle.dc_syntax.specs.Reading.{Out, Nothing, Found, next, kept, checked, between, eat, named_at, named}
use Rattle.dc_syntax.proofs.Words.{word_is}

-- A phrase stands at the front, and this is the rest.
pub record Front (A : List Token → Type 0) (all rest : List Token) : Type 0 where
  pub front : List Token
  pub whole : all ≡ front ++ rest
  pub is : A front

take_front : (front rest : List Token) → take (length front) (front ++ rest) ≡ front
take_front [] rest = refl
take_front (t ∷ front) rest = ap (λ l. t ∷ l) (take_front front rest)

pub between_is : (all front rest : List Token) → all ≡ front ++ rest → between all rest ≡ place_of front
between_is all front rest e =
    let n : length all - length rest ≡ length front = omega (arith, ap length e, length-append front rest) in
    let f : take (length all - length rest) all ≡ front = ap (λ k. take k all) n ∙ (ap (λ l. take (length front) l) e ∙ take_front front rest) in
    ap place_of f

-- putting phrases together
pub front_then : {A B : List Token → Type 0} {all mid rest : List Token} → Front A all mid → Front B mid rest → Front (A ⊙ B) all rest
front_then {A} {B} {all} {mid} {rest} a b =
    record {
      front = a.front ++ b.front;
      whole = a.whole ∙ (ap (λ l. a.front ++ l) b.whole ∙ sym (append_assoc a.front b.front rest));
      is = record { left = a.front; right = b.front; whole = refl; first = a.is; second = b.is };
    }

pub front_word : {w : Word} {all : List Token} (t : Token) (rest : List Token) → all ≡ t ∷ rest → t.word ≡ w → Front (IsWord w) all rest
front_word t rest e is = record { front = t ∷ []; whole = e; is = record { token = t; only = refl; is = is } }

pub front_placed : {A : List Token → Type 0} {all rest : List Token} → Front A all rest → Front (Placed (between all rest) A) all rest
front_placed {A} {all} {rest} a = record { front = a.front; whole = a.whole; is = record { place = between_is all a.front rest a.whole; is = a.is } }

pub front_empty : (all : List Token) → Front IsEmpty all all
front_empty all = record { front = []; whole = refl; is = record { none = refl } }

pub front_where : {b : Bool} {A : List Token → Type 0} {all rest : List Token} → b ≡ true → Front A all rest → Front (Where b A) all rest
front_where e a = record { front = a.front; whole = a.whole; is = record { holds = e; is = a.is } }

pub front_within : {k : ℕ} {tree : Tree} {A : List Token → Type 0} {all rest : List Token} → sort_of tree ≡ IsExpression → level_of tree ≤ k → Front A all rest → Front (Within k tree A) all rest
front_within s l a = record { front = a.front; whole = a.whole; is = record { sort = s; level = l; is = a.is } }

pub front_sorted : {s : Sort} {tree : Tree} {A : List Token → Type 0} {all rest : List Token} → sort_of tree ≡ s → Front A all rest → Front (Sorted s tree A) all rest
front_sorted s a = record { front = a.front; whole = a.whole; is = record { sort = s; is = a.is } }

or_true : (b : Bool) → (b || true) ≡ true
or_true true = refl
or_true false = refl

-- a test of what may not stand first, of the front alone
pub leaves_front : (env : Names) (s : Tree) (all front rest : List Token) → all ≡ front ++ rest → leaves env s all ≡ true → leaves env s front ≡ true
leaves_front env s all [] rest e l = or_true (has_type s)
leaves_front env s all (t ∷ front) rest e l = ap (leaves env s) (sym e) ∙ l

pub front_leaves : (env : Names) (s : Tree) {A : List Token → Type 0} {all rest : List Token} → leaves env s all ≡ true → Front A all rest → Front (Passing (leaves env s) A) all rest
front_leaves env s {A} {all} {rest} l a = record { front = a.front; whole = a.whole; is = record { passes = leaves_front env s all a.front rest a.whole l; is = a.is } }

opens_front : (env : Names) (all front rest : List Token) → all ≡ front ++ rest → opens_declarator env all ≡ true → opens_declarator env front ≡ true
opens_front env all [] rest e l = refl
opens_front env all (t ∷ front) rest e l = ap (opens_declarator env) (sym e) ∙ l

pub front_opens : (env : Names) {A : List Token → Type 0} {all rest : List Token} → opens_declarator env all ≡ true → Front A all rest → Front (Passing (opens_declarator env) A) all rest
front_opens env {A} {all} {rest} l a = record { front = a.front; whole = a.whole; is = record { passes = opens_front env all a.front rest a.whole l; is = a.is } }

-- the other way
pub record Split (A B : List Token → Type 0) (all rest : List Token) : Type 0 where
  pub mid : List Token
  pub first : Front A all mid
  pub second : Front B mid rest

pub split : {A B : List Token → Type 0} {all rest : List Token} → Front (A ⊙ B) all rest → Split A B all rest
split {A} {B} {all} {rest} f =
    record {
      mid = f.is.right ++ rest;
      first = record { front = f.is.left; whole = f.whole ∙ (ap (λ l. l ++ rest) f.is.whole ∙ append_assoc f.is.left f.is.right rest); is = f.is.first };
      second = record { front = f.is.right; whole = refl; is = f.is.second };
    }

pub record First (w : Word) (all rest : List Token) : Type 0 where
  pub token : Token
  pub whole : all ≡ token ∷ rest
  pub word : token.word ≡ w

pub first_word : {w : Word} {all rest : List Token} → Front (IsWord w) all rest → First w all rest
first_word {w} {all} {rest} f = record { token = f.is.token; whole = f.whole ∙ ap (λ l. l ++ rest) f.is.only; word = f.is.is }

pub record Unplaced (p : Place) (A : List Token → Type 0) (all rest : List Token) : Type 0 where
  pub place : between all rest ≡ p
  pub is : Front A all rest

pub unplaced : {p : Place} {A : List Token → Type 0} {all rest : List Token} → Front (Placed p A) all rest → Unplaced p A all rest
unplaced {p} {A} {all} {rest} f =
    record { place = between_is all f.front rest f.whole ∙ sym f.is.place; is = record { front = f.front; whole = f.whole; is = f.is.is } }

pub record Held (b : Bool) (A : List Token → Type 0) (all rest : List Token) : Type 0 where
  pub holds : b ≡ true
  pub is : Front A all rest

pub held : {b : Bool} {A : List Token → Type 0} {all rest : List Token} → Front (Where b A) all rest → Held b A all rest
held f = record { holds = f.is.holds; is = record { front = f.front; whole = f.whole; is = f.is.is } }

pub record Opened (k : ℕ) (tree : Tree) (A : List Token → Type 0) (all rest : List Token) : Type 0 where
  pub sort : sort_of tree ≡ IsExpression
  pub level : level_of tree ≤ k
  pub is : Front A all rest

pub opened : {k : ℕ} {tree : Tree} {A : List Token → Type 0} {all rest : List Token} → Front (Within k tree A) all rest → Opened k tree A all rest
opened f = record { sort = f.is.sort; level = f.is.level; is = record { front = f.front; whole = f.whole; is = f.is.is } }

pub record OfSort (s : Sort) (tree : Tree) (A : List Token → Type 0) (all rest : List Token) : Type 0 where
  pub sort : sort_of tree ≡ s
  pub is : Front A all rest

pub sorted : {s : Sort} {tree : Tree} {A : List Token → Type 0} {all rest : List Token} → Front (Sorted s tree A) all rest → OfSort s tree A all rest
sorted f = record { sort = f.is.sort; is = record { front = f.front; whole = f.whole; is = f.is.is } }

pub empty_is : {all rest : List Token} → Front IsEmpty all rest → all ≡ rest
empty_is {all} {rest} f = f.whole ∙ ap (λ l. l ++ rest) f.is.none

pub shorter : {A : List Token → Type 0} {all rest : List Token} → Front A all rest → length rest ≤ length all
shorter {A} {all} {rest} f = omega (arith, ap length f.whole, length-append f.front rest)

-- what a reader gives, if it finds something
abbrev pub GivesAll : {A : Type 0} → (A → List Token → Type 0) → Out A → Type 0
GivesAll P Nothing = Unit {0}
GivesAll P (Found e rest) = P e rest

pub record Gives {A : Type 0} (P : A → List Token → Type 0) (o : Out A) : Type 0 where
  pub all : GivesAll P o

pub gives_nothing : {A : Type 0} {P : A → List Token → Type 0} → Gives P Nothing
gives_nothing = record { all = tt }

pub gives_found : {A : Type 0} {P : A → List Token → Type 0} (e : A) (rest : List Token) → P e rest → Gives P (Found e rest)
gives_found e rest p = record { all = p }

pub gives_next : {A B : Type 0} {P : B → List Token → Type 0} {Q : A → List Token → Type 0} {o : Out A} {go : A → List Token → Out B} → Gives Q o → ((e : A) (rest : List Token) → Q e rest → Gives P (go e rest)) → Gives P (next o go)
gives_next {A} {B} {P} {Q} {o} {go} q f = elim o as (λ o. Gives Q o → Gives P (next o go)) [ Nothing ↦ λ q. gives_nothing | Found e rest ↦ λ q. f e rest q.all ] q

pub gives_kept : {A B : Type 0} {P : B → List Token → Type 0} {Q : A → List Token → Type 0} {o : Out A} {keep : Out B} {go : A → List Token → Out B} → Gives Q o → Gives P keep → ((e : A) (rest : List Token) → Q e rest → Gives P (go e rest)) → Gives P (kept o keep go)
gives_kept {A} {B} {P} {Q} {o} {keep} {go} q k f = elim o as (λ o. Gives Q o → Gives P (kept o keep go)) [ Nothing ↦ λ q. k | Found e rest ↦ λ q. f e rest q.all ] q

pub gives_if : {A : Type 0} {P : A → List Token → Type 0} {b : Bool} {x y : Out A} → (b ≡ true → Gives P x) → (b ≡ false → Gives P y) → Gives P (if b then x else y)
gives_if {A} {P} {b} {x} {y} f g = elim b as (λ c. (c ≡ true → Gives P x) → (c ≡ false → Gives P y) → Gives P (if c then x else y)) [ true ↦ λ f g. f refl | false ↦ λ f g. g refl ] f g

pub gives_checked : {A : Type 0} {P : A → List Token → Type 0} (b : Bool) {x : Out A} → (b ≡ true → Gives P x) → Gives P (checked b x)
gives_checked b f = gives_if f (λ _. gives_nothing)

pub gives_eat : {A : Type 0} {P : A → List Token → Type 0} {w : Word} {all : List Token} {go : List Token → Out A} → ((ts : List Token) → Front (IsWord w) all ts → Gives P (go ts)) → Gives P (eat w all go)
gives_eat {A} {P} {w} {all} {go} f = eaten all f
  where
    eaten : (all : List Token) → ((ts : List Token) → Front (IsWord w) all ts → Gives P (go ts)) → Gives P (eat w all go)
    eaten [] f = gives_nothing
    eaten (t ∷ ts) f = gives_if (λ e. f ts (front_word t ts refl (word_is w t.word e))) (λ e. gives_nothing)

pub gives_named : {A : Type 0} {P : A → List Token → Type 0} (all : List Token) {go : List ℕ → List Token → Out A} → ((n : List ℕ) (ts : List Token) → Front (name n) all ts → Gives P (go n ts)) → Gives P (named all go)
gives_named [] f = gives_nothing
gives_named {A} {P} (t ∷ ts) {go} f = at_word t.word refl
  where
    at_word : (w : Word) → t.word ≡ w → Gives P (named_at w ts go)
    at_word (Named n) e = f n ts (front_word t ts refl e)
    at_word (Literal n) e = gives_nothing
    at_word (Marked m) e = gives_nothing
    at_word (Reserved k) e = gives_nothing

pub gives_weaken : {A : Type 0} {P Q : A → List Token → Type 0} {o : Out A} → Gives Q o → ((e : A) (rest : List Token) → Q e rest → P e rest) → Gives P o
gives_weaken {A} {P} {Q} {o} q f = elim o as (λ o. Gives Q o → Gives P o) [ Nothing ↦ λ q. gives_nothing | Found e rest ↦ λ q. gives_found e rest (f e rest q.all) ] q
