-- A loop over a list of parts: one more part, and its ends.
-- 1. Say which list it is, by a `PartList`: how the definition reads the list (with its names in force and its turns) and one part of it, the test whether one more is read, where that is read from (`λ at. at + 1` behind a
--    token that is eaten first, else `λ at. at`), the names in force behind a part (`λ a env. env` where they stay), and the parts that the list makes. Prove it an `IsPartList`, as `groups_listed` of ClauseLists.
-- 2. The loop's invariant is `Walked list start tokens at limit l.list names`, where `start` is what the definition reads from the place `at` on with its first names; its measure is `length tokens - l.list.at`.
-- 3. `walked_starts` is the invariant at first, `walked_more` behind one more, with `walked_less` for the measure. `walked_none`: one more must stand there, and there is none. `walked_ends`: the test fails.
--    Where the test holds at the tokens' end too, as up to a closing mark, `walked_open` stands for `walked_none`: nothing is read with what must close the list.
--    Each takes the list, the tokens and the `IsPartList` first. What `TakingPart` says is made what `DeclaringPart` says by `taken_declares`. The answers of `Level::more_groups` show each of them.
use Rattle.std.proofs.Common.{◌≡◌, ℕ, zero, suc, ◌+◌, ◌-◌, ◌<◌, ◌≤◌, max, Bool, true, false, List, [], ◌∷◌, ◌++◌, map, length, drop, refl, sym, ap, ◌∙◌, arith, length-drop}
use Rattle.std.proofs.lemmas.List.{map-append}
use Rattle.dc_syntax.specs.Tokens.{Token}
use Rattle.dc_syntax.specs.Names.{Names}
use Rattle.dc_syntax.specs.Parts.{Part, height_of}
use Rattle.dc_syntax.specs.Reading.{Out, Nothing, Found, next}
use Rattle.dc_syntax.specs.UnitView.{part_view}
use Rattle.dc_read_unit.specs.declared.read.ReadParts.{ReadParts}
use Rattle.dc_read_unit.specs.PartView.{IsParts}
use Rattle.dc_read_unit.specs.PartTaking.{IsTakenPart, IsDeclaredPart}

-- which list is read, and how
pub record PartList : Type 0 where
  pub list : Names → ℕ → List Token → Out Part
  pub one : Names → List Token → Out Part
  pub test : List Token → Bool
  pub from : ℕ → ℕ
  pub behind : Part → Names → Names
  pub none : Part
  pub cons : Part → Part → Part
  pub view : List Part → Part

-- it is read so
pub record IsPartList (k : PartList) (tokens : List Token) : Type 0 where
  pub turn : (env : Names) (n at : ℕ) → k.test (drop at tokens) ≡ true
      → k.list env (suc n) (drop at tokens) ≡ next (k.one env (drop (k.from at) tokens)) (λ a rest. next (k.list (k.behind a env) n rest) (λ m rest. Found (k.cons a m) rest))
  pub stop : (env : Names) (n at : ℕ) → k.test (drop at tokens) ≡ false → k.list env n (drop at tokens) ≡ Found k.none (drop at tokens)
  pub forth : (at : ℕ) → at ≤ k.from at
  pub view-none : k.view [] ≡ k.none
  pub view-cons : (a : Part) (l : List Part) → k.view (a ∷ l) ≡ k.cons a (k.view l)
  pub height-none : height_of k.none ≡ 0
  pub height-cons : (a m : Part) → height_of (k.cons a m) ≡ max (height_of a) (height_of m)

-- parts before what is read behind them
abbrev pub before : PartList → List Part → Out Part → Out Part
before k [] o = o
before k (a ∷ l) o = next (before k l o) (λ m rest. Found (k.cons a m) rest)

before-push : (k : PartList) (l : List Part) (a : Part) (o : Out Part) → before k (l ++ a ∷ []) o ≡ before k l (next o (λ m rest. Found (k.cons a m) rest))
before-push k [] a o = refl
before-push k (b ∷ l) a o = ap (λ o. next o (λ m rest. Found (k.cons b m) rest)) (before-push k l a o)

before-nothing : (k : PartList) (l : List Part) → before k l Nothing ≡ Nothing
before-nothing k [] = refl
before-nothing k (a ∷ l) = ap (λ o. next o (λ m rest. Found (k.cons a m) rest)) (before-nothing k l)

-- some parts are read
pub record Walked (k : PartList) (start : Out Part) (tokens : List Token) (from limit : ℕ) (r : ReadParts) (env : Names) : Type 0 where
  pub turns : ℕ
  pub same : before k (map part_view r.parts) (k.list env turns (drop r.at tokens)) ≡ start
  pub enough : length tokens ≤ turns + r.at
  pub high : r.height ≡ height_of (k.view (map part_view r.parts))
  pub short : r.height ≤ limit
  pub after : from ≤ r.at
  pub within : r.at ≤ length tokens

pub taken_declares : (tokens : List Token) (from limit : ℕ) (old new : ReadParts) (env : Names) (out : Out Part) → IsTakenPart tokens from limit old new out → IsDeclaredPart tokens from limit old new env (λ a. env) out
taken_declares tokens from limit old new env out t = record { read = t.read; is = t.is; pushed = t.pushed; scope = refl }

module _ (k : PartList) (tokens : List Token) (w : IsPartList k tokens) where
  before-none : (l : List Part) (ts : List Token) → before k l (Found k.none ts) ≡ Found (k.view l) ts
  before-none [] ts = ap (λ m. Found m ts) (sym w.view-none)
  before-none (a ∷ l) ts = ap (λ o. next o (λ m rest. Found (k.cons a m) rest)) (before-none l ts) ∙ ap (λ m. Found m ts) (sym (w.view-cons a l))

  height-of-none : height_of (k.view []) ≡ 0
  height-of-none = ap height_of w.view-none ∙ w.height-none

  height-of-cons : (a : Part) (l : List Part) → height_of (k.view (a ∷ l)) ≡ max (height_of a) (height_of (k.view l))
  height-of-cons a l = ap height_of (w.view-cons a l) ∙ w.height-cons a (k.view l)

  height-of-push : (l : List Part) (a : Part) → height_of (k.view (l ++ a ∷ [])) ≡ max (height_of (k.view l)) (height_of a)
  height-of-push [] a = omega (arith, height-of-cons a [], height-of-none)
  height-of-push (b ∷ l) a = omega (arith, height-of-cons b (l ++ a ∷ []), height-of-cons b l, height-of-push l a)

  pub walked_starts : (at limit : ℕ) (r : ReadParts) (env env' : Names) → r.parts ≡ [] → r.height ≡ 0 → r.at ≡ at → env ≡ env' → at ≤ length tokens
      → Walked k (k.list env' (length (drop at tokens)) (drop at tokens)) tokens at limit r env
  walked_starts at limit r env env' none low there same le = record {
    turns = length (drop at tokens);
    same = ap (λ l. before k (map part_view l) (k.list env (length (drop at tokens)) (drop r.at tokens))) none
        ∙ (ap (λ n. k.list env (length (drop at tokens)) (drop n tokens)) there ∙ ap (λ e. k.list e (length (drop at tokens)) (drop at tokens)) same);
    enough = omega (arith, length-drop at tokens, there);
    high = low ∙ (sym height-of-none ∙ ap (λ l. height_of (k.view (map part_view l))) (sym none));
    short = omega (arith, low);
    after = omega (arith, there);
    within = omega (arith, there, le);
  }

  module _ (start : Out Part) (from limit : ℕ) (old : ReadParts) (env : Names) where
    pub walked_more : (new : ReadParts) (env' : Names) → Walked k start tokens from limit old env → k.test (drop old.at tokens) ≡ true
        → IsDeclaredPart tokens (k.from old.at) limit old new env' (λ a. k.behind a env) (k.one env (drop (k.from old.at) tokens)) → Walked k start tokens from limit new env'
    walked_more new env' v is t = go v.turns v.same v.enough
      where
        viewed : map part_view new.parts ≡ map part_view old.parts ++ part_view t.read.part ∷ []
        viewed = ap (map part_view) t.pushed.parts ∙ map-append part_view old.parts (t.read.part ∷ [])

        go : (n : ℕ) → before k (map part_view old.parts) (k.list env n (drop old.at tokens)) ≡ start → length tokens ≤ n + old.at → Walked k start tokens from limit new env'
        go zero same enough = absurd (omega (arith, enough, t.is.after, t.is.within, w.forth old.at))
        go (suc n) same enough =
            let gone : k.list env (suc n) (drop old.at tokens) ≡ next (k.list env' n (drop new.at tokens)) (λ m rest. Found (k.cons (part_view t.read.part) m) rest) =
            w.turn env n old.at is
            ∙ (ap (λ o. next o (λ a rest. next (k.list (k.behind a env) n rest) (λ m rest. Found (k.cons a m) rest))) t.is.found
            ∙ (ap (λ e. next (k.list e n (drop t.read.at tokens)) (λ m rest. Found (k.cons (part_view t.read.part) m) rest)) (sym t.scope)
            ∙ ap (λ i. next (k.list env' n (drop i tokens)) (λ m rest. Found (k.cons (part_view t.read.part) m) rest)) (sym t.pushed.at))) in
            record {
              turns = n;
              same = ap (λ l. before k l (k.list env' n (drop new.at tokens))) viewed
                  ∙ (before-push k (map part_view old.parts) (part_view t.read.part) (k.list env' n (drop new.at tokens)) ∙ (ap (before k (map part_view old.parts)) (sym gone) ∙ same));
              enough = omega (arith, enough, t.is.after, t.pushed.at, w.forth old.at);
              high = t.pushed.height ∙ (ap (λ n. max n t.read.height) v.high ∙ (ap (max (height_of (k.view (map part_view old.parts)))) t.is.high
                  ∙ (sym (height-of-push (map part_view old.parts) (part_view t.read.part)) ∙ ap (λ l. height_of (k.view l)) (sym viewed))));
              short = omega (arith, t.pushed.height, v.short, t.is.short);
              after = omega (arith, v.after, t.is.after, t.pushed.at, w.forth old.at);
              within = omega (arith, t.is.within, t.pushed.at);
            }

    pub walked_less : (new : ReadParts) (env' : Names) → IsDeclaredPart tokens (k.from old.at) limit old new env' (λ a. k.behind a env) (k.one env (drop (k.from old.at) tokens))
        → length tokens - new.at < length tokens - old.at
    walked_less new env' t = omega (arith, t.is.after, t.is.within, t.pushed.at, w.forth old.at)

    pub walked_none : Walked k start tokens from limit old env → k.test (drop old.at tokens) ≡ true → old.at < length tokens → k.one env (drop (k.from old.at) tokens) ≡ Nothing → start ≡ Nothing
    walked_none v is lt none = go v.turns v.same v.enough
      where
        go : (n : ℕ) → before k (map part_view old.parts) (k.list env n (drop old.at tokens)) ≡ start → length tokens ≤ n + old.at → start ≡ Nothing
        go zero same enough = absurd (omega (arith, enough, lt))
        go (suc n) same enough =
            sym same ∙ (ap (before k (map part_view old.parts)) (w.turn env n old.at is ∙ ap (λ o. next o (λ a rest. next (k.list (k.behind a env) n rest) (λ m rest. Found (k.cons a m) rest))) none)
            ∙ before-nothing k (map part_view old.parts))

    pub walked_open : {B : Type 0} → Walked k start tokens from limit old env → k.test (drop old.at tokens) ≡ true → k.one env (drop (k.from old.at) tokens) ≡ Nothing
        → ((ts : List Token) → k.list env zero ts ≡ Found k.none ts) → (close : Part → List Token → Out B) → ((m : Part) → close m (drop old.at tokens) ≡ Nothing) → next start close ≡ Nothing
    walked_open {B} v is none over close stays = go v.turns v.same
      where
        go : (n : ℕ) → before k (map part_view old.parts) (k.list env n (drop old.at tokens)) ≡ start → next start close ≡ Nothing
        go zero same =
            ap (λ o. next o close) (sym same ∙ (ap (before k (map part_view old.parts)) (over (drop old.at tokens)) ∙ before-none (map part_view old.parts) (drop old.at tokens)))
            ∙ stays (k.view (map part_view old.parts))
        go (suc n) same =
            ap (λ o. next o close) (sym same ∙ (ap (before k (map part_view old.parts)) (w.turn env n old.at is ∙ ap (λ o. next o (λ a rest. next (k.list (k.behind a env) n rest) (λ m rest. Found (k.cons a m) rest))) none)
            ∙ before-nothing k (map part_view old.parts)))

    pub walked_ends : Walked k start tokens from limit old env → k.test (drop old.at tokens) ≡ false → IsParts tokens from limit k.view old start
    walked_ends v is = record {
      found = sym v.same ∙ (ap (before k (map part_view old.parts)) (w.stop env v.turns old.at is) ∙ before-none (map part_view old.parts) (drop old.at tokens));
      high = v.high;
      short = v.short;
      after = v.after;
      within = v.within;
    }
