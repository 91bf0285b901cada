-- The condition of a quantifier, as a part of its own.
use Rattle.std.proofs.Common.{◌≡◌, ℕ, Bool, true, false, if◌then◌else◌, ◌+◌, ◌<◌, ◌≤◌, max, List, [], ◌∷◌, map, drop, refl, sym, ap, ◌∙◌, arith}
use Rattle.dc_syntax.specs.declared.mark.Mark.TheVariants.{LeftBrace, RightBrace, Semicolon}
use Rattle.dc_syntax.specs.declared.keyword.Keyword.{Keyword}
use Rattle.dc_syntax.specs.declared.raw.Raw.TheViews as raw
use Rattle.dc_syntax.specs.Tokens.{Token, Place, Marked, is_word}
use Rattle.dc_syntax.specs.Names.{Names}
use Rattle.dc_syntax.specs.Trees.{Tree, Quantifier, naming, height}
use Rattle.dc_syntax.specs.Reading.{Out, Nothing, Found, Reads, Upto, next, eat, between, found, quantified, bare, declarator_named}
use Rattle.dc_syntax.specs.View.{raw_view, specs_tree}
use Rattle.dc_read_expr.specs.declared.read.Read.{Read}
use Rattle.dc_read_expr.specs.declared.types.ReadSpecs.{ReadSpecs}
use Rattle.dc_read_expr.specs.View.{IsReading, IsNext}
use Rattle.dc_read_expr.specs.Quantified.{condition_behind, quantifier_behind}
use Rattle.dc_read_expr.proofs.Bare.{bare_next}
use Rattle.dc_read_expr.proofs.Eating.{eat_next}
use Rattle.dc_read_expr.proofs.Placed.{placed_reading}
use Rattle.dc_read_expr.proofs.Pointers.{eat_at}
use Rattle.dc_read_expr.proofs.Shapes.{raw_view-Quantifier}

pub condition_next : (r : Reads) (env : Names) (d : Tree) (ts : List Token) (go : Tree → List Token → Out Tree)
    → eat (Marked Semicolon) ts (λ ts. next (r (Upto 15) (naming d false env) ts) (λ c rest. eat (Marked RightBrace) rest (λ rest. go c rest))) ≡ next (condition_behind r env d ts) go
condition_next r env d [] go = refl
condition_next r env d (t ∷ ts) go = by (is_word (Marked Semicolon) t.word)
  where
    read : (o : Out Tree) → next o (λ c rest. eat (Marked RightBrace) rest (λ rest. go c rest)) ≡ next (next o (λ c rest. eat (Marked RightBrace) rest (λ rest. Found c rest))) go
    read Nothing = refl
    read (Found c rest) = eat_next (Marked RightBrace) rest c go

    by : (b : Bool) → (if b then next (r (Upto 15) (naming d false env) ts) (λ c rest. eat (Marked RightBrace) rest (λ rest. go c rest)) else Nothing)
        ≡ next (if b then next (r (Upto 15) (naming d false env) ts) (λ c rest. eat (Marked RightBrace) rest (λ rest. Found c rest)) else Nothing) go
    by true = read (r (Upto 15) (naming d false env) ts)
    by false = refl

abbrev behind_brace : Reads → ℕ → Names → List Token → Keyword → List Token → Out Tree
behind_brace r h env all k ts = next (bare r h env ts Found) (λ s rest. quantifier_behind r env all k s rest)

brace_is : (r : Reads) (h : ℕ) (env : Names) (all : List Token) (k : Keyword) (ts : List Token) → bare r h env ts (λ s rest. next (declarator_named r env rest) (λ d rest.
    eat (Marked Semicolon) rest (λ ts. next (r (Upto 15) (naming d false env) ts) (λ c rest. eat (Marked RightBrace) rest (λ rest. found all (Quantifier k s d c) rest))))) ≡ behind_brace r h env all k ts
brace_is r h env all k ts = bare_next r h env ts _ ∙ specs_is (bare r h env ts Found)
  where
    declared_is : (o : Out Tree) (s : Tree) → next o (λ d rest. eat (Marked Semicolon) rest (λ ts. next (r (Upto 15) (naming d false env) ts) (λ c rest. eat (Marked RightBrace) rest (λ rest. found all (Quantifier k s d c) rest))))
        ≡ next o (λ d rest. next (condition_behind r env d rest) (λ c rest. found all (Quantifier k s d c) rest))
    declared_is Nothing s = refl
    declared_is (Found d rest) s = condition_next r env d rest (λ c rest. found all (Quantifier k s d c) rest)

    specs_is : (o : Out Tree) → next o (λ s rest. next (declarator_named r env rest) (λ d rest.
        eat (Marked Semicolon) rest (λ ts. next (r (Upto 15) (naming d false env) ts) (λ c rest. eat (Marked RightBrace) rest (λ rest. found all (Quantifier k s d c) rest))))) ≡ next o (λ s rest. quantifier_behind r env all k s rest)
    specs_is Nothing = refl
    specs_is (Found s rest) = declared_is (declarator_named r env rest) s

pub quantified_is : (r : Reads) (h : ℕ) (env : Names) (all : List Token) (k : Keyword) (tokens : List Token) (at : ℕ) → IsNext tokens at (Marked LeftBrace) → quantified r h env all k (drop at tokens) ≡ behind_brace r h env all k (drop (at + 1) tokens)
quantified_is r h env all k tokens at n =
    ap (λ ts. quantified r h env all k ts) n.whole ∙ (ap (λ w. if is_word (Marked LeftBrace) w then bare r h env (drop (at + 1) tokens) (λ s rest. next (declarator_named r env rest) (λ d rest.
    eat (Marked Semicolon) rest (λ ts. next (r (Upto 15) (naming d false env) ts) (λ c rest. eat (Marked RightBrace) rest (λ rest. found all (Quantifier k s d c) rest))))) else Nothing) n.word ∙ brace_is r h env all k (drop (at + 1) tokens))

pub quantified_no_specs : (r : Reads) (h : ℕ) (env : Names) (all : List Token) (k : Keyword) (tokens : List Token) (at : ℕ) → IsNext tokens at (Marked LeftBrace) → bare r h env (drop (at + 1) tokens) Found ≡ Nothing → quantified r h env all k (drop at tokens) ≡ Nothing
quantified_no_specs r h env all k tokens at n e = quantified_is r h env all k tokens at n ∙ ap (λ o. next o (λ s rest. quantifier_behind r env all k s rest)) e

pub quantified_specs : (r : Reads) (h : ℕ) (env : Names) (all : List Token) (k : Keyword) (tokens : List Token) (at : ℕ) (s : Tree) (rest : List Token) → IsNext tokens at (Marked LeftBrace) → bare r h env (drop (at + 1) tokens) Found ≡ Found s rest
    → quantified r h env all k (drop at tokens) ≡ quantifier_behind r env all k s rest
quantified_specs r h env all k tokens at s rest n e = quantified_is r h env all k tokens at n ∙ ap (λ o. next o (λ s rest. quantifier_behind r env all k s rest)) e

abbrev behind_declarator : Reads → Names → List Token → Keyword → Tree → Tree → List Token → Out Tree
behind_declarator r env all k s d rest = next (condition_behind r env d rest) (λ c rest. found all (Quantifier k s d c) rest)

pub quantifier_reading : (r : Reads) (h : ℕ) (env : Names) (tokens : List Token) (from : ℕ) (k : Keyword) (specs : ReadSpecs) (d c : Read) (p : Place) (read : Read) → from < specs.at → specs.height ≡ height (specs_tree (map raw_view specs.specs)) → specs.height ≤ h
    → IsReading tokens specs.at h d (declarator_named r env (drop specs.at tokens)) → IsReading tokens d.at h c (condition_behind r env (raw_view d.tree) (drop d.at tokens))
    → read.tree ≡ raw.Quantifier k specs.specs d.tree c.tree p → p ≡ between (drop from tokens) (drop c.at tokens) → read.height ≡ max specs.height (max d.height c.height) + 1 → read.at ≡ c.at
    → IsReading tokens from (h + 1) read (quantifier_behind r env (drop from tokens) k (specs_tree (map raw_view specs.specs)) (drop specs.at tokens))
quantifier_reading r h env tokens from k specs d c p read lt specs_high specs_low q l tree place high at =
    let s = specs_tree (map raw_view specs.specs) in
    placed_reading tokens from c.at (h + 1) (Quantifier k (specs_tree (map raw_view specs.specs)) (raw_view d.tree) (raw_view c.tree)) p read _
    (ap (λ o. next o (behind_declarator r env (drop from tokens) k s)) q.found ∙ ap (λ o. next o (λ c rest. found (drop from tokens) (Quantifier k s (raw_view d.tree) c) rest)) l.found)
    (ap raw_view tree ∙ raw_view-Quantifier k specs.specs d.tree c.tree p) place (omega (arith, high, specs_high, q.high, l.high)) (omega (arith, high, specs_low, q.short, l.short)) (omega (arith, lt, q.after, l.after)) (omega (arith, l.within)) at

abbrev braced : Out Tree → Out Tree
braced o = next o (λ c rest. eat (Marked RightBrace) rest (λ rest. Found c rest))

condition_by : (r : Reads) (env : Names) (d : Tree) (tokens : List Token) (at : ℕ) → IsNext tokens at (Marked Semicolon) → condition_behind r env d (drop at tokens) ≡ braced (r (Upto 15) (naming d false env) (drop (at + 1) tokens))
condition_by r env d tokens at n = eat_at (Marked Semicolon) tokens at (λ ts. braced (r (Upto 15) (naming d false env) ts)) refl n

pub condition_reading : (r : Reads) (env : Names) (d : Tree) (tokens : List Token) (at limit : ℕ) (c read : Read) → IsNext tokens at (Marked Semicolon) → IsReading tokens (at + 1) limit c (r (Upto 15) (naming d false env) (drop (at + 1) tokens))
    → IsNext tokens c.at (Marked RightBrace) → read.tree ≡ c.tree → read.height ≡ c.height → read.at ≡ c.at + 1 → IsReading tokens at limit read (condition_behind r env d (drop at tokens))
condition_reading r env d tokens at limit c read n q end tree high there = record {
  found = condition_by r env d tokens at n ∙ (ap braced q.found ∙ (eat_at (Marked RightBrace) tokens c.at (λ rest. Found (raw_view c.tree) rest) refl end
      ∙ (ap (λ t. Found (raw_view t) (drop (c.at + 1) tokens)) (sym tree) ∙ ap (λ k. Found (raw_view read.tree) (drop k tokens)) (sym there))));
  high = high ∙ (q.high ∙ ap (λ t. height (raw_view t)) (sym tree));
  short = omega (arith, high, q.short);
  after = omega (arith, there, q.after);
  within = omega (arith, there, end.within);
}
