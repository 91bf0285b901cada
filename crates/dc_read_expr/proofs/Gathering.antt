-- A loop over the members of a struct: one more, and its ends.
use Rattle.std.proofs.Common.{◌≡◌, ℕ, zero, suc, ◌+◌, ◌<◌, ◌≤◌, max, Bool, true, false, if◌then◌else◌, List, [], ◌∷◌, ◌++◌, map, length, drop, refl, sym, ap, ◌∙◌, arith, length-drop}
use Rattle.std.proofs.lemmas.List.{map-append}
use Rattle.dc_syntax.specs.declared.mark.Mark.TheVariants.{RightBrace}
use Rattle.dc_syntax.specs.Tokens.{Token, Marked}
use Rattle.dc_syntax.specs.Names.{Names}
use Rattle.dc_syntax.specs.Trees.{NoMembers, Members, Tag, StructBody, Tree, declared, height}
use Rattle.dc_syntax.specs.Reading.{Out, Nothing, Found, Reads, MemberOf, next, eat, begins, found, members}
use Rattle.dc_syntax.specs.View.{raw_view, members_tree}
use Rattle.dc_syntax.specs.declared.raw.Raw.{Raw}
use Rattle.dc_syntax.proofs.Words.{false-true}
use Rattle.dc_read_expr.specs.declared.lists.ReadItems.{ReadItems}
use Rattle.dc_read_expr.specs.View.{IsListing, closed_members}
use Rattle.dc_read_expr.specs.Taking.{IsTaken}

-- members before what is read behind them
abbrev pub membered : List Tree → Out Tree → Out Tree
membered [] o = o
membered (a ∷ l) o = next (membered l o) (λ m rest. Found (Members a m) rest)

abbrev close : Tree → List Token → Out Tree
close m rest = eat (Marked RightBrace) rest (λ rest. Found m rest)

membered-push : (l : List Tree) (a : Tree) (o : Out Tree) → membered (l ++ a ∷ []) o ≡ membered l (next o (λ m rest. Found (Members a m) rest))
membered-push [] a o = refl
membered-push (b ∷ l) a o = ap (λ o. next o (λ m rest. Found (Members b m) rest)) (membered-push l a o)

membered-end : (l : List Tree) (ts : List Token) → membered l (Found NoMembers ts) ≡ Found (members_tree l) ts
membered-end [] ts = refl
membered-end (a ∷ l) ts = ap (λ o. next o (λ m rest. Found (Members a m) rest)) (membered-end l ts)

membered-none : (l : List Tree) → membered l Nothing ≡ Nothing
membered-none [] = refl
membered-none (a ∷ l) = ap (λ o. next o (λ m rest. Found (Members a m) rest)) (membered-none l)

members-height-push : (l : List Tree) (a : Tree) → height (members_tree (l ++ a ∷ [])) ≡ max (height (members_tree l)) (height a)
members-height-push [] a = omega arith
members-height-push (b ∷ l) a = omega (arith, members-height-push l a)

pub within_close : (tokens : List Token) (at : ℕ) → begins (Marked RightBrace) (drop at tokens) ≡ true → at < length tokens
within_close [] zero is = absurd (false-true is)
within_close [] (suc at) is = absurd (false-true is)
within_close (t ∷ ts) zero is = omega arith
within_close (t ∷ ts) (suc at) is = omega (arith, within_close ts at is)

closes : (tokens : List Token) (at : ℕ) (m : Tree) → begins (Marked RightBrace) (drop at tokens) ≡ true → close m (drop at tokens) ≡ Found m (drop (at + 1) tokens)
closes [] zero m is = absurd (false-true is)
closes [] (suc at) m is = absurd (false-true is)
closes (t ∷ ts) zero m is = ap (λ b. if b then Found m ts else Nothing) is
closes (t ∷ ts) (suc at) m is = let e : suc at + 1 ≡ suc (at + 1) = omega arith in closes ts at m is ∙ ap (λ k. Found m (drop k (t ∷ ts))) (sym e)

stays : (ts : List Token) (m : Tree) → begins (Marked RightBrace) ts ≡ false → close m ts ≡ Nothing
stays [] m is = refl
stays (t ∷ ts) m is = ap (λ b. if b then Found m ts else Nothing) is

-- some members are read
pub record Gathered (r : Reads) (start : Out Tree) (tokens : List Token) (from limit : ℕ) (items : List Raw) (h : ℕ) (env : Names) (at : ℕ) : Type 0 where
  pub turns : ℕ
  pub same : next (membered (map raw_view items) (members r env turns (drop at tokens))) close ≡ start
  pub enough : length tokens ≤ turns + at
  pub high : h ≡ height (members_tree (map raw_view items))
  pub short : h ≤ limit
  pub after : from ≤ at
  pub within : at ≤ length tokens

pub gathered_starts : (r : Reads) (tokens : List Token) (limit : ℕ) (items : List Raw) (env env' : Names) (at : ℕ) → items ≡ [] → env ≡ env' → at ≤ length tokens
    → Gathered r (closed_members r env' (length (drop at tokens)) (drop at tokens)) tokens at limit items 0 env at
gathered_starts r tokens limit items env env' at none same le = record {
  turns = length (drop at tokens);
  same = ap (λ l. next (membered (map raw_view l) (members r env (length (drop at tokens)) (drop at tokens))) close) none ∙ ap (λ e. closed_members r e (length (drop at tokens)) (drop at tokens)) same;
  enough = omega (arith, length-drop at tokens);
  high = sym (ap (λ l. height (members_tree (map raw_view l))) none);
  short = omega arith;
  after = omega arith;
  within = le;
}

module _ (r : Reads) (start : Out Tree) (tokens : List Token) (from limit : ℕ) (items : List Raw) (h : ℕ) (env : Names) (at : ℕ) where
  turn : (n : ℕ) → begins (Marked RightBrace) (drop at tokens) ≡ false
      → members r env (suc n) (drop at tokens) ≡ next (r MemberOf env (drop at tokens)) (λ a rest. next (members r (declared a env) n rest) (λ m rest. Found (Members a m) rest))
  turn n is =
      ap (λ b. if b then Found NoMembers (drop at tokens) else next (r MemberOf env (drop at tokens)) (λ a rest. next (members r (declared a env) n rest) (λ m rest. Found (Members a m) rest))) is

  -- where the tokens end, or a brace closes
  ending : (n : ℕ) → members r env n (drop at tokens) ≡ Found NoMembers (drop at tokens) → next (membered (map raw_view items) (members r env n (drop at tokens))) close ≡ start
      → start ≡ close (members_tree (map raw_view items)) (drop at tokens)
  ending n e same = sym same ∙ ap (λ o. next o close) (ap (membered (map raw_view items)) e ∙ membered-end (map raw_view items) (drop at tokens))

  pub gathered_more : Gathered r start tokens from limit items h env at → begins (Marked RightBrace) (drop at tokens) ≡ false → (old new : ReadItems) (env' : Names) → old.items ≡ items → old.height ≡ h
      → IsTaken tokens at limit old new env env' (r MemberOf env (drop at tokens)) → Gathered r start tokens from limit new.items new.height env' new.at
  gathered_more w is old new env' these high t = go w.turns w.same w.enough
    where
      viewed : map raw_view new.items ≡ map raw_view items ++ raw_view t.read.tree ∷ []
      viewed = ap (map raw_view) (t.pushed.items ∙ ap (λ l. l ++ t.read.tree ∷ []) these) ∙ map-append raw_view items (t.read.tree ∷ [])

      go : (n : ℕ) → next (membered (map raw_view items) (members r env n (drop at tokens))) close ≡ start → length tokens ≤ n + at → Gathered r start tokens from limit new.items new.height env' new.at
      go zero same enough = absurd (omega (arith, enough, t.is.after, t.is.within))
      go (suc n) same enough =
          let gone : members r env (suc n) (drop at tokens) ≡ next (members r env' n (drop new.at tokens)) (λ m rest. Found (Members (raw_view t.read.tree) m) rest) =
          turn n is
          ∙ (ap (λ o. next o (λ a rest. next (members r (declared a env) n rest) (λ m rest. Found (Members a m) rest))) t.is.found
          ∙ (ap (λ e. next (members r e n (drop t.read.at tokens)) (λ m rest. Found (Members (raw_view t.read.tree) m) rest)) (sym t.pushed.scope)
          ∙ ap (λ k. next (members r env' n (drop k tokens)) (λ m rest. Found (Members (raw_view t.read.tree) m) rest)) (sym t.pushed.at))) in
          record {
            turns = n;
            same = ap (λ o. next o close) (ap (λ l. membered l (members r env' n (drop new.at tokens))) viewed
                ∙ (membered-push (map raw_view items) (raw_view t.read.tree) (members r env' n (drop new.at tokens)) ∙ ap (membered (map raw_view items)) (sym gone))) ∙ same;
            enough = omega (arith, enough, t.is.after, t.pushed.at);
            high = t.pushed.height ∙ (ap (λ n. max n t.read.height) (high ∙ w.high) ∙ (ap (max (height (members_tree (map raw_view items)))) t.is.high
                ∙ (sym (members-height-push (map raw_view items) (raw_view t.read.tree)) ∙ ap (λ l. height (members_tree l)) (sym viewed))));
            short = omega (arith, t.pushed.height, high, w.short, t.is.short);
            after = omega (arith, w.after, t.is.after, t.pushed.at);
            within = omega (arith, t.is.within, t.pushed.at);
          }

  pub gathered_none : Gathered r start tokens from limit items h env at → begins (Marked RightBrace) (drop at tokens) ≡ false → r MemberOf env (drop at tokens) ≡ Nothing → start ≡ Nothing
  gathered_none w is none = go w.turns w.same
    where
      go : (n : ℕ) → next (membered (map raw_view items) (members r env n (drop at tokens))) close ≡ start → start ≡ Nothing
      go zero same = ending zero refl same ∙ stays (drop at tokens) (members_tree (map raw_view items)) is
      go (suc n) same =
          sym same ∙ ap (λ o. next o close) (ap (membered (map raw_view items)) (turn n is ∙ ap (λ o. next o (λ a rest. next (members r (declared a env) n rest) (λ m rest. Found (Members a m) rest))) none)
          ∙ membered-none (map raw_view items))

  pub gathered_ends : Gathered r start tokens from limit items h env at → begins (Marked RightBrace) (drop at tokens) ≡ true → (l : ReadItems) → l.items ≡ items → l.height ≡ h → l.at ≡ at + 1
      → IsListing tokens from limit members_tree l start
  gathered_ends w is l these high there = record {
    found = go w.turns w.same ∙ (closes tokens at (members_tree (map raw_view items)) is
        ∙ (ap (λ l. Found (members_tree (map raw_view l)) (drop (at + 1) tokens)) (sym these) ∙ ap (λ k. Found (members_tree (map raw_view l.items)) (drop k tokens)) (sym there)));
    high = high ∙ (w.high ∙ ap (λ l. height (members_tree (map raw_view l))) (sym these));
    short = omega (arith, high, w.short);
    after = omega (arith, there, w.after);
    within = omega (arith, there, within_close tokens at is);
  }
    where
      go : (n : ℕ) → next (membered (map raw_view items) (members r env n (drop at tokens))) close ≡ start → start ≡ close (members_tree (map raw_view items)) (drop at tokens)
      go zero same = ending zero refl same
      go (suc n) same = ending (suc n) (ap (λ b. if b then Found NoMembers (drop at tokens) else next (r MemberOf env (drop at tokens)) (λ a rest. next (members r (declared a env) n rest) (λ m rest. Found (Members a m) rest))) is) same

eaten : (all : List Token) (t : Tag) (m : Tree) (rest : List Token) (b : Bool) → (if b then found all (StructBody t m) rest else Nothing) ≡ next (if b then Found m rest else Nothing) (λ m rest. found all (StructBody t m) rest)
eaten all t m rest true = refl
eaten all t m rest false = refl

closed : (all : List Token) (t : Tag) (m : Tree) (rest : List Token) → eat (Marked RightBrace) rest (λ rest. found all (StructBody t m) rest) ≡ next (close m rest) (λ m rest. found all (StructBody t m) rest)
closed all t m [] = refl
closed all t m (u ∷ rest) = eaten all t m rest (begins (Marked RightBrace) (u ∷ rest))

closed_all : (all : List Token) (t : Tag) (o : Out Tree) → next o (λ m rest. eat (Marked RightBrace) rest (λ rest. found all (StructBody t m) rest)) ≡ next (next o close) (λ m rest. found all (StructBody t m) rest)
closed_all all t Nothing = refl
closed_all all t (Found m rest) = closed all t m rest

-- a struct's body is its members with their end, and the rest
pub body_by_members : (r : Reads) (env : Names) (all ts : List Token) (t : Tag) → next (members r env (length ts) ts) (λ m rest. eat (Marked RightBrace) rest (λ rest. found all (StructBody t m) rest))
    ≡ next (closed_members r env (length ts) ts) (λ m rest. found all (StructBody t m) rest)
body_by_members r env all ts t = closed_all all t (members r env (length ts) ts)
