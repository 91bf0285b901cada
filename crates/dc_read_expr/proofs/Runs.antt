-- A loop over specs: one more, and its ends.
use Rattle.std.proofs.Common.{◌≡◌, ℕ, zero, suc, ◌+◌, ◌≤◌, max, Bool, true, false, if◌then◌else◌, ◌||◌, List, [], ◌∷◌, ◌++◌, map, length, drop, refl, sym, ap, ◌∙◌, arith, length-drop}
use Rattle.std.proofs.lemmas.List.{map-append}
use Rattle.dc_syntax.specs.Tokens.{Token}
use Rattle.dc_syntax.specs.Names.{Names}
use Rattle.dc_syntax.specs.Trees.{LastSpec, Specs, Tree, is_type_spec, is_body, has_type, has_body, declared, height}
use Rattle.dc_syntax.specs.Reading.{Out, Nothing, Found, Reads, next, spec, takes, specs_from, specs}
use Rattle.dc_syntax.specs.View.{raw_view, specs_behind, specs_tree}
use Rattle.dc_syntax.specs.declared.raw.Raw.{Raw}
use Rattle.dc_read_expr.specs.declared.types.ReadSpecs.{ReadSpecs}
use Rattle.dc_read_expr.specs.View.{IsSpecifying}
use Rattle.dc_read_expr.specs.Taking.{IsTakenSpec}

-- specs before what is read behind them
abbrev pub specified : List Tree → Out Tree → Out Tree
specified [] o = o
specified (a ∷ l) o = next (specified l o) (λ m rest. Found (Specs a m) rest)

specified-push : (l : List Tree) (a : Tree) (o : Out Tree) → specified (l ++ a ∷ []) o ≡ specified l (next o (λ m rest. Found (Specs a m) rest))
specified-push [] a o = refl
specified-push (b ∷ l) a o = ap (λ o. next o (λ m rest. Found (Specs b m) rest)) (specified-push l a o)

specified-none : (l : List Tree) → specified l Nothing ≡ Nothing
specified-none [] = refl
specified-none (a ∷ l) = ap (λ o. next o (λ m rest. Found (Specs a m) rest)) (specified-none l)

before : (b : Tree) (l : List Tree) (a : Tree) → Specs b (specs_tree (l ++ a ∷ [])) ≡ specs_behind b (l ++ a ∷ [])
before b [] a = refl
before b (c ∷ l) a = refl

specified-last : (l : List Tree) (a : Tree) (rest : List Token) → specified l (Found (LastSpec a) rest) ≡ Found (specs_tree (l ++ a ∷ [])) rest
specified-last [] a rest = refl
specified-last (b ∷ l) a rest = ap (λ o. next o (λ m rest. Found (Specs b m) rest)) (specified-last l a rest) ∙ ap (λ t. Found t rest) (before b l a)

abbrev pub tallest : List Tree → ℕ
tallest [] = 0
tallest (a ∷ l) = max (height a) (tallest l)

tallest-push : (l : List Tree) (a : Tree) → tallest (l ++ a ∷ []) ≡ max (tallest l) (height a)
tallest-push [] a = omega arith
tallest-push (b ∷ l) a = omega (arith, tallest-push l a)

height-last : (l : List Tree) (a : Tree) → height (specs_tree (l ++ a ∷ [])) ≡ max (tallest l) (height a)
height-last [] a = omega arith
height-last (b ∷ l) a = ap height (sym (before b l a)) ∙ later (height-last l a)
  where
    later : height (specs_tree (l ++ a ∷ [])) ≡ max (tallest l) (height a) → max (height b) (height (specs_tree (l ++ a ∷ []))) ≡ max (max (height b) (tallest l)) (height a)
    later e = omega (arith, e)

abbrev pub any_of : (Tree → Bool) → List Tree → Bool
any_of f [] = false
any_of f (a ∷ l) = f a || any_of f l

or_assoc : (a b c : Bool) → (a || (b || c)) ≡ ((a || b) || c)
or_assoc true b c = refl
or_assoc false b c = refl

or_none : (a : Bool) → (a || false) ≡ a
or_none true = refl
or_none false = refl

any_of-push : (f : Tree → Bool) (l : List Tree) (a : Tree) → any_of f (l ++ a ∷ []) ≡ (any_of f l || f a)
any_of-push f [] a = or_none (f a)
any_of-push f (b ∷ l) a = ap (λ x. f b || x) (any_of-push f l a) ∙ or_assoc (f b) (any_of f l) (f a)

has_type-last : (l : List Tree) (a : Tree) → has_type (specs_tree (l ++ a ∷ [])) ≡ (any_of is_type_spec l || is_type_spec a)
has_type-last [] a = refl
has_type-last (b ∷ l) a = ap has_type (sym (before b l a)) ∙ (ap (λ x. is_type_spec b || x) (has_type-last l a) ∙ or_assoc (is_type_spec b) (any_of is_type_spec l) (is_type_spec a))

has_body-last : (l : List Tree) (a : Tree) → has_body (specs_tree (l ++ a ∷ [])) ≡ (any_of is_body l || is_body a)
has_body-last [] a = refl
has_body-last (b ∷ l) a = ap has_body (sym (before b l a)) ∙ (ap (λ x. is_body b || x) (has_body-last l a) ∙ or_assoc (is_body b) (any_of is_body l) (is_body a))

-- some specs are read, and one more is taken
pub record Running (r : Reads) (limit : ℕ) (start : Out Tree) (tokens : List Token) (from : ℕ) (run : ReadSpecs) (env : Names) : Type 0 where
  pub turns : ℕ
  pub same : specified (map raw_view run.specs) (specs_from r limit env run.has_type turns (drop run.at tokens)) ≡ start
  pub enough : length tokens ≤ turns + run.at
  pub high : run.height ≡ tallest (map raw_view run.specs)
  pub short : run.height ≤ limit
  pub after : from ≤ run.at
  pub typed : run.has_type ≡ any_of is_type_spec (map raw_view run.specs)
  pub bodied : run.has_body ≡ any_of is_body (map raw_view run.specs)

pub running_starts : (r : Reads) (tokens : List Token) (limit : ℕ) (env env' : Names) (at : ℕ) (specs' : List Raw) → specs' ≡ [] → env ≡ env'
    → Running r limit (specs r limit env' (drop at tokens)) tokens at record { specs = specs'; height = 0; at = at; has_type = false; has_body = false } env
running_starts r tokens limit env env' at specs' none same = record {
  turns = length (drop at tokens);
  same = ap (λ l. specified (map raw_view l) (specs_from r limit env false (length (drop at tokens)) (drop at tokens))) none ∙ ap (λ e. specs_from r limit e false (length (drop at tokens)) (drop at tokens)) same;
  enough = omega (arith, length-drop at tokens);
  high = sym (ap (λ l. tallest (map raw_view l)) none);
  short = omega arith;
  after = omega arith;
  typed = sym (ap (λ l. any_of is_type_spec (map raw_view l)) none);
  bodied = sym (ap (λ l. any_of is_body (map raw_view l)) none);
}

-- behind one spec
abbrev onward : Reads → ℕ → ℕ → Tree → Names → Bool → List Token → Out Tree
onward r h n s env typed rest = if takes typed env rest then next (specs_from r h env typed n rest) (λ m rest. Found (Specs s m) rest) else Found (LastSpec s) rest

module _ (r : Reads) (limit : ℕ) (start : Out Tree) (tokens : List Token) (from : ℕ) (run : ReadSpecs) (env : Names) where
  turn : (new : ReadSpecs) (env' : Names) (t : IsTakenSpec tokens limit run new env env' (spec r limit env run.has_type (drop run.at tokens))) (n : ℕ)
      → specs_from r limit env run.has_type (suc n) (drop run.at tokens) ≡ onward r limit n (raw_view t.read.tree) env' new.has_type (drop new.at tokens)
  turn new env' t n =
      ap (λ o. next o (λ s rest. onward r limit n s (declared s env) (run.has_type || is_type_spec s) rest)) t.is.found
      ∙ (ap (λ e. onward r limit n (raw_view t.read.tree) e (run.has_type || is_type_spec (raw_view t.read.tree)) (drop t.read.at tokens)) (sym t.pushed.scope)
      ∙ (ap (λ b. onward r limit n (raw_view t.read.tree) env' b (drop t.read.at tokens)) (sym t.pushed.typed)
      ∙ ap (λ k. onward r limit n (raw_view t.read.tree) env' new.has_type (drop k tokens)) (sym t.pushed.at)))

  viewed : (new : ReadSpecs) (env' : Names) (t : IsTakenSpec tokens limit run new env env' (spec r limit env run.has_type (drop run.at tokens)))
      → map raw_view new.specs ≡ map raw_view run.specs ++ raw_view t.read.tree ∷ []
  viewed new env' t = ap (map raw_view) t.pushed.specs ∙ map-append raw_view run.specs (t.read.tree ∷ [])

  pub running_more : Running r limit start tokens from run env → (new : ReadSpecs) (env' : Names) (t : IsTakenSpec tokens limit run new env env' (spec r limit env run.has_type (drop run.at tokens)))
      → takes new.has_type env' (drop new.at tokens) ≡ true → Running r limit start tokens from new env'
  running_more w new env' t is = go w.turns w.same w.enough
    where
      go : (n : ℕ) → specified (map raw_view run.specs) (specs_from r limit env run.has_type n (drop run.at tokens)) ≡ start → length tokens ≤ n + run.at → Running r limit start tokens from new env'
      go zero same enough = absurd (omega (arith, enough, t.is.after, t.is.within))
      go (suc n) same enough =
          let l = map raw_view run.specs in
          let a = raw_view t.read.tree in
          let gone : specs_from r limit env run.has_type (suc n) (drop run.at tokens) ≡ next (specs_from r limit env' new.has_type n (drop new.at tokens)) (λ m rest. Found (Specs (raw_view t.read.tree) m) rest) =
          turn new env' t n
          ∙ ap (λ b. if b then next (specs_from r limit env' new.has_type n (drop new.at tokens)) (λ m rest. Found (Specs (raw_view t.read.tree) m) rest) else Found (LastSpec (raw_view t.read.tree)) (drop new.at tokens)) is in
          record {
            turns = n;
            same = ap (λ l. specified l (specs_from r limit env' new.has_type n (drop new.at tokens))) (viewed new env' t)
                ∙ (specified-push l a (specs_from r limit env' new.has_type n (drop new.at tokens)) ∙ (ap (specified l) (sym gone) ∙ same));
            enough = omega (arith, enough, t.is.after, t.pushed.at);
            high = t.pushed.height ∙ (ap (λ n. max n t.read.height) w.high ∙ (ap (max (tallest l)) t.is.high ∙ (sym (tallest-push l a) ∙ ap tallest (sym (viewed new env' t)))));
            short = omega (arith, t.pushed.height, w.short, t.is.short);
            after = omega (arith, w.after, t.is.after, t.pushed.at);
            typed = t.pushed.typed ∙ (ap (λ b. b || is_type_spec a) w.typed ∙ (sym (any_of-push is_type_spec l a) ∙ ap (any_of is_type_spec) (sym (viewed new env' t))));
            bodied = t.pushed.bodied ∙ (ap (λ b. b || is_body a) w.bodied ∙ (sym (any_of-push is_body l a) ∙ ap (any_of is_body) (sym (viewed new env' t))));
          }

  pub running_ends : Running r limit start tokens from run env → (new : ReadSpecs) (env' : Names) (t : IsTakenSpec tokens limit run new env env' (spec r limit env run.has_type (drop run.at tokens)))
      → takes new.has_type env' (drop new.at tokens) ≡ false → IsSpecifying tokens from limit new start
  running_ends w new env' t is =
      let l = map raw_view run.specs in
      let a = raw_view t.read.tree in
      record {
        found = go w.turns w.same w.enough ∙ (specified-last l a (drop new.at tokens) ∙ ap (λ l. Found (specs_tree l) (drop new.at tokens)) (sym (viewed new env' t)));
        high = t.pushed.height ∙ (ap (λ n. max n t.read.height) w.high ∙ (ap (max (tallest l)) t.is.high ∙ (sym (height-last l a) ∙ ap (λ l. height (specs_tree l)) (sym (viewed new env' t)))));
        short = omega (arith, t.pushed.height, w.short, t.is.short);
        after = omega (arith, w.after, t.is.after, t.pushed.at);
        within = omega (arith, t.is.within, t.pushed.at);
        typed = t.pushed.typed ∙ (ap (λ b. b || is_type_spec a) w.typed ∙ (sym (has_type-last l a) ∙ ap (λ l. has_type (specs_tree l)) (sym (viewed new env' t))));
        bodied = t.pushed.bodied ∙ (ap (λ b. b || is_body a) w.bodied ∙ (sym (has_body-last l a) ∙ ap (λ l. has_body (specs_tree l)) (sym (viewed new env' t))));
      }
    where
      go : (n : ℕ) → specified (map raw_view run.specs) (specs_from r limit env run.has_type n (drop run.at tokens)) ≡ start → length tokens ≤ n + run.at
          → start ≡ specified (map raw_view run.specs) (Found (LastSpec (raw_view t.read.tree)) (drop new.at tokens))
      go zero same enough = absurd (omega (arith, enough, t.is.after, t.is.within))
      go (suc n) same enough =
          sym same ∙ ap (specified (map raw_view run.specs)) (turn new env' t n
          ∙ ap (λ b. if b then next (specs_from r limit env' new.has_type n (drop new.at tokens)) (λ m rest. Found (Specs (raw_view t.read.tree) m) rest) else Found (LastSpec (raw_view t.read.tree)) (drop new.at tokens)) is)

  pub running_none : Running r limit start tokens from run env → spec r limit env run.has_type (drop run.at tokens) ≡ Nothing → start ≡ Nothing
  running_none w none = go w.turns w.same
    where
      go : (n : ℕ) → specified (map raw_view run.specs) (specs_from r limit env run.has_type n (drop run.at tokens)) ≡ start → start ≡ Nothing
      go zero same = sym same ∙ specified-none (map raw_view run.specs)
      go (suc n) same =
          sym same ∙ (ap (λ o. specified (map raw_view run.specs) (next o (λ s rest. onward r limit n s (declared s env) (run.has_type || is_type_spec s) rest))) none ∙ specified-none (map raw_view run.specs))
