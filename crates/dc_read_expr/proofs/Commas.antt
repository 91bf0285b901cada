-- A loop over a list with commas: one more member, and its ends.
use Rattle.std.proofs.Common.{◌≡◌, ℕ, zero, suc, ◌+◌, ◌<◌, ◌≤◌, max, Bool, true, false, if◌then◌else◌, ◌&&◌, List, [], ◌∷◌, ◌++◌, map, length, drop, refl, sym, ap, ◌∙◌, arith, length-drop}
use Rattle.std.proofs.lemmas.List.{map-append}
use Rattle.dc_syntax.specs.declared.mark.Mark.TheVariants.{Comma}
use Rattle.dc_syntax.specs.Tokens.{Token, Marked, is_word}
use Rattle.dc_syntax.specs.Names.{Names}
use Rattle.dc_syntax.specs.Trees.{Item, NoMore, More, Tree, declared, height}
use Rattle.dc_syntax.specs.Reading.{Out, Nothing, Found, next, eat, has_more, goes_on_at, more}
use Rattle.dc_syntax.specs.View.{raw_view, more_tree}
use Rattle.dc_syntax.specs.declared.raw.Raw.{Raw}
use Rattle.dc_syntax.proofs.Words.{false-true}
use Rattle.dc_read_expr.specs.declared.lists.ReadItems.{ReadItems}
use Rattle.dc_read_expr.specs.View.{IsListing}
use Rattle.dc_read_expr.specs.Taking.{IsTaken}

abbrev pub One : Type 0
One = Names → List Token → Out Tree

-- members before what is read behind them
abbrev pub prepended : Item → List Tree → Out Tree → Out Tree
prepended i [] o = o
prepended i (a ∷ l) o = next (prepended i l o) (λ m rest. Found (More i a m) rest)

prepended-push : (i : Item) (l : List Tree) (a : Tree) (o : Out Tree) → prepended i (l ++ a ∷ []) o ≡ prepended i l (next o (λ m rest. Found (More i a m) rest))
prepended-push i [] a o = refl
prepended-push i (b ∷ l) a o = ap (λ o. next o (λ m rest. Found (More i b m) rest)) (prepended-push i l a o)

prepended-end : (i : Item) (l : List Tree) (ts : List Token) → prepended i l (Found (NoMore i) ts) ≡ Found (more_tree i l) ts
prepended-end i [] ts = refl
prepended-end i (a ∷ l) ts = ap (λ o. next o (λ m rest. Found (More i a m) rest)) (prepended-end i l ts)

prepended-none : (i : Item) (l : List Tree) → prepended i l Nothing ≡ Nothing
prepended-none i [] = refl
prepended-none i (a ∷ l) = ap (λ o. next o (λ m rest. Found (More i a m) rest)) (prepended-none i l)

height-push : (i : Item) (l : List Tree) (a : Tree) → height (more_tree i (l ++ a ∷ [])) ≡ max (height (more_tree i l)) (height a)
height-push i [] a = omega arith
height-push i (b ∷ l) a = omega (arith, height-push i l a)

first : (a b : Bool) → (a && b) ≡ true → a ≡ true
first true b e = refl
first false b e = absurd (false-true e)

-- a list that goes on has a comma first
eats : (tokens : List Token) (at : ℕ) (go : List Token → Out Tree) → has_more (drop at tokens) ≡ true → eat (Marked Comma) (drop at tokens) go ≡ go (drop (at + 1) tokens)
eats [] zero go is = absurd (false-true is)
eats [] (suc at) go is = absurd (false-true is)
eats (t ∷ ts) zero go is = ap (λ b. if b then go ts else Nothing) (first (is_word (Marked Comma) t.word) (goes_on_at ts) is)
eats (t ∷ ts) (suc at) go is = let e : suc at + 1 ≡ suc (at + 1) = omega arith in eats ts at go is ∙ ap (λ k. go (drop k (t ∷ ts))) (sym e)

pub within_more : (tokens : List Token) (at : ℕ) → has_more (drop at tokens) ≡ true → at < length tokens
within_more [] zero is = absurd (false-true is)
within_more [] (suc at) is = absurd (false-true is)
within_more (t ∷ ts) zero is = omega arith
within_more (t ∷ ts) (suc at) is = omega (arith, within_more ts at is)

-- some members are read
pub record Walked (one : One) (i : Item) (start : Out Tree) (tokens : List Token) (from limit : ℕ) (items : List Raw) (h : ℕ) (env : Names) (at : ℕ) : Type 0 where
  pub turns : ℕ
  pub same : prepended i (map raw_view items) (more one i env turns (drop at tokens)) ≡ start
  pub enough : length tokens ≤ turns + at
  pub high : h ≡ height (more_tree i (map raw_view items))
  pub short : h ≤ limit
  pub after : from ≤ at
  pub within : at ≤ length tokens

pub walked_starts : (one : One) (i : Item) (tokens : List Token) (limit : ℕ) (items : List Raw) (env env' : Names) (at : ℕ) → items ≡ [] → env ≡ env' → at ≤ length tokens
    → Walked one i (more one i env' (length (drop at tokens)) (drop at tokens)) tokens at limit items 0 env at
walked_starts one i tokens limit items env env' at none same le = record {
  turns = length (drop at tokens);
  same = ap (λ l. prepended i (map raw_view l) (more one i env (length (drop at tokens)) (drop at tokens))) none ∙ ap (λ e. more one i e (length (drop at tokens)) (drop at tokens)) same;
  enough = omega (arith, length-drop at tokens);
  high = sym (ap (λ l. height (more_tree i (map raw_view l))) none);
  short = omega arith;
  after = omega arith;
  within = le;
}

module _ (one : One) (i : Item) (start : Out Tree) (tokens : List Token) (from limit : ℕ) (items : List Raw) (h : ℕ) (env : Names) (at : ℕ) where
  turn : (n : ℕ) → has_more (drop at tokens) ≡ true
      → more one i env (suc n) (drop at tokens) ≡ next (one env (drop (at + 1) tokens)) (λ a rest. next (more one i (declared a env) n rest) (λ m rest. Found (More i a m) rest))
  turn n is =
      ap (λ b. if b then eat (Marked Comma) (drop at tokens) (λ ts. next (one env ts) (λ a rest. next (more one i (declared a env) n rest) (λ m rest. Found (More i a m) rest))) else Found (NoMore i) (drop at tokens)) is
      ∙ eats tokens at (λ ts. next (one env ts) (λ a rest. next (more one i (declared a env) n rest) (λ m rest. Found (More i a m) rest))) is

  pub walked_more : Walked one i start tokens from limit items h env at → has_more (drop at tokens) ≡ true → (old new : ReadItems) (env' : Names) → old.items ≡ items → old.height ≡ h
      → IsTaken tokens (at + 1) limit old new env env' (one env (drop (at + 1) tokens)) → Walked one i start tokens from limit new.items new.height env' new.at
  walked_more w is old new env' these high t = go w.turns w.same w.enough
    where
      viewed : map raw_view new.items ≡ map raw_view items ++ raw_view t.read.tree ∷ []
      viewed = ap (map raw_view) (t.pushed.items ∙ ap (λ l. l ++ t.read.tree ∷ []) these) ∙ map-append raw_view items (t.read.tree ∷ [])

      go : (n : ℕ) → prepended i (map raw_view items) (more one i env n (drop at tokens)) ≡ start → length tokens ≤ n + at → Walked one i start tokens from limit new.items new.height env' new.at
      go zero same enough = absurd (omega (arith, enough, within_more tokens at is))
      go (suc n) same enough =
          let gone : more one i env (suc n) (drop at tokens) ≡ next (more one i env' n (drop new.at tokens)) (λ m rest. Found (More i (raw_view t.read.tree) m) rest) =
          turn n is
          ∙ (ap (λ o. next o (λ a rest. next (more one i (declared a env) n rest) (λ m rest. Found (More i a m) rest))) t.is.found
          ∙ (ap (λ e. next (more one i e n (drop t.read.at tokens)) (λ m rest. Found (More i (raw_view t.read.tree) m) rest)) (sym t.pushed.scope)
          ∙ ap (λ k. next (more one i env' n (drop k tokens)) (λ m rest. Found (More i (raw_view t.read.tree) m) rest)) (sym t.pushed.at))) in
          record {
            turns = n;
            same = ap (λ l. prepended i l (more one i env' n (drop new.at tokens))) viewed
                ∙ (prepended-push i (map raw_view items) (raw_view t.read.tree) (more one i env' n (drop new.at tokens)) ∙ (ap (prepended i (map raw_view items)) (sym gone) ∙ same));
            enough = omega (arith, enough, t.is.after, t.pushed.at);
            high = t.pushed.height ∙ (ap (λ n. max n t.read.height) (high ∙ w.high) ∙ (ap (max (height (more_tree i (map raw_view items)))) t.is.high
                ∙ (sym (height-push i (map raw_view items) (raw_view t.read.tree)) ∙ ap (λ l. height (more_tree i l)) (sym viewed))));
            short = omega (arith, t.pushed.height, high, w.short, t.is.short);
            after = omega (arith, w.after, t.is.after, t.pushed.at);
            within = omega (arith, t.is.within, t.pushed.at);
          }

  pub walked_none : Walked one i start tokens from limit items h env at → has_more (drop at tokens) ≡ true → one env (drop (at + 1) tokens) ≡ Nothing → start ≡ Nothing
  walked_none w is none = go w.turns w.same w.enough
    where
      go : (n : ℕ) → prepended i (map raw_view items) (more one i env n (drop at tokens)) ≡ start → length tokens ≤ n + at → start ≡ Nothing
      go zero same enough = absurd (omega (arith, enough, within_more tokens at is))
      go (suc n) same enough =
          sym same ∙ (ap (prepended i (map raw_view items)) (turn n is ∙ ap (λ o. next o (λ a rest. next (more one i (declared a env) n rest) (λ m rest. Found (More i a m) rest))) none)
          ∙ prepended-none i (map raw_view items))

  pub walked_ends : Walked one i start tokens from limit items h env at → has_more (drop at tokens) ≡ false → (r : ReadItems) → r.items ≡ items → r.height ≡ h → r.at ≡ at
      → IsListing tokens from limit (more_tree i) r start
  walked_ends w is r these high there = record {
    found = go w.turns w.same ∙ (prepended-end i (map raw_view items) (drop at tokens)
        ∙ (ap (λ l. Found (more_tree i (map raw_view l)) (drop at tokens)) (sym these) ∙ ap (λ k. Found (more_tree i (map raw_view r.items)) (drop k tokens)) (sym there)));
    high = high ∙ (w.high ∙ ap (λ l. height (more_tree i (map raw_view l))) (sym these));
    short = omega (arith, high, w.short);
    after = omega (arith, there, w.after);
    within = omega (arith, there, w.within);
  }
    where
      go : (n : ℕ) → prepended i (map raw_view items) (more one i env n (drop at tokens)) ≡ start → start ≡ prepended i (map raw_view items) (Found (NoMore i) (drop at tokens))
      go zero same = sym same
      go (suc n) same =
          sym same ∙ ap (λ b. prepended i (map raw_view items) (if b then eat (Marked Comma) (drop at tokens) (λ ts. next (one env ts) (λ a rest. next (more one i (declared a env) n rest) (λ m rest. Found (More i a m) rest))) else Found (NoMore i) (drop at tokens))) is
