-- One token is eaten, or none.
use Rattle.std.proofs.Common.{◌≡◌, ℕ, zero, suc, ◌+◌, ◌<◌, Bool, true, false, if◌then◌else◌, List, [], ◌∷◌, length, drop, refl, sym, ap, ◌∙◌, subst, arith}
use Rattle.dc_syntax.specs.declared.mark.Mark.TheVariants.{Comma, RightBrace}
use Rattle.dc_syntax.specs.Tokens.{Token, Word, Marked, is_word}
use Rattle.dc_syntax.specs.Reading.{Out, Nothing, Found, next, eat, begins}
use Rattle.dc_syntax.proofs.Words.{false-true}
use Rattle.dc_read_expr.specs.View.{IsEnding, list_end}

pub within_begins : (w : Word) (tokens : List Token) (at : ℕ) → begins w (drop at tokens) ≡ true → at < length tokens
within_begins w [] zero is = absurd (false-true is)
within_begins w [] (suc at) is = absurd (false-true is)
within_begins w (t ∷ ts) zero is = omega arith
within_begins w (t ∷ ts) (suc at) is = omega (arith, within_begins w ts at is)

pub eaten : {A : Type 0} (w : Word) (tokens : List Token) (at : ℕ) (go : List Token → Out A) → begins w (drop at tokens) ≡ true → eat w (drop at tokens) go ≡ go (drop (at + 1) tokens)
eaten w [] zero go is = absurd (false-true is)
eaten w [] (suc at) go is = absurd (false-true is)
eaten w (t ∷ ts) zero go is = ap (λ b. if b then go ts else Nothing) is
eaten w (t ∷ ts) (suc at) go is = let e : suc at + 1 ≡ suc (at + 1) = omega arith in eaten w ts at go is ∙ ap (λ k. go (drop k (t ∷ ts))) (sym e)

pub uneaten : {A : Type 0} (w : Word) (ts : List Token) (go : List Token → Out A) → begins w ts ≡ false → eat w ts go ≡ Nothing
uneaten w [] go is = refl
uneaten w (t ∷ ts) go is = ap (λ b. if b then go ts else Nothing) is

abbrev closing : List Token → Out Bool
closing rest = eat (Marked RightBrace) rest (Found true)

abbrev either : List Token → Bool → Out Bool
either rest b = if b then eat (Marked Comma) rest closing else closing rest

pub ends_by_comma : (tokens : List Token) (from at : ℕ) → begins (Marked Comma) (drop from tokens) ≡ true → begins (Marked RightBrace) (drop (from + 1) tokens) ≡ true → at ≡ from + 1 + 1 → IsEnding tokens from at
ends_by_comma tokens from at comma brace e = subst (IsEnding tokens from) (sym e) record {
  found = ap (either (drop from tokens)) comma ∙ (eaten (Marked Comma) tokens from closing comma ∙ eaten (Marked RightBrace) tokens (from + 1) (Found true) brace);
  after = omega arith;
  within = omega (arith, within_begins (Marked RightBrace) tokens (from + 1) brace);
}

pub no_end_by_comma : (tokens : List Token) (from : ℕ) → begins (Marked Comma) (drop from tokens) ≡ true → begins (Marked RightBrace) (drop (from + 1) tokens) ≡ false → list_end (drop from tokens) ≡ Nothing
no_end_by_comma tokens from comma brace = ap (either (drop from tokens)) comma ∙ (eaten (Marked Comma) tokens from closing comma ∙ uneaten (Marked RightBrace) (drop (from + 1) tokens) (Found true) brace)

pub ends_by_brace : (tokens : List Token) (from at : ℕ) → begins (Marked Comma) (drop from tokens) ≡ false → begins (Marked RightBrace) (drop from tokens) ≡ true → at ≡ from + 1 → IsEnding tokens from at
ends_by_brace tokens from at comma brace e = subst (IsEnding tokens from) (sym e) record {
  found = ap (either (drop from tokens)) comma ∙ eaten (Marked RightBrace) tokens from (Found true) brace;
  after = omega arith;
  within = omega (arith, within_begins (Marked RightBrace) tokens from brace);
}

pub no_end_by_brace : (tokens : List Token) (from : ℕ) → begins (Marked Comma) (drop from tokens) ≡ false → begins (Marked RightBrace) (drop from tokens) ≡ false → list_end (drop from tokens) ≡ Nothing
no_end_by_brace tokens from comma brace = ap (either (drop from tokens)) comma ∙ uneaten (Marked RightBrace) (drop from tokens) (Found true) brace

-- what stands behind a token that is eaten, as a step of its own
pub eat_next : {A B : Type 0} (w : Word) (ts : List Token) (c : A) (go : A → List Token → Out B) → eat w ts (λ rest. go c rest) ≡ next (eat w ts (λ rest. Found c rest)) go
eat_next w [] c go = refl
eat_next w (t ∷ ts) c go = by (is_word w t.word)
  where
    by : (b : Bool) → (if b then go c ts else Nothing) ≡ next (if b then Found c ts else Nothing) go
    by true = refl
    by false = refl

pub list_end_next : {A : Type 0} (ts : List Token) (go : List Token → Out A)
    → (if begins (Marked Comma) ts then eat (Marked Comma) ts (λ rest. eat (Marked RightBrace) rest go) else eat (Marked RightBrace) ts go) ≡ next (list_end ts) (λ b rest. go rest)
list_end_next [] go = refl
list_end_next (t ∷ ts) go = by (is_word (Marked Comma) t.word)
  where
    behind : (b : Bool) → (if b then eat (Marked RightBrace) ts go else Nothing) ≡ next (if b then eat (Marked RightBrace) ts (Found true) else Nothing) (λ b rest. go rest)
    behind true = eat_next (Marked RightBrace) ts true (λ b rest. go rest)
    behind false = refl

    by : (b : Bool) → (if b then (if is_word (Marked Comma) t.word then eat (Marked RightBrace) ts go else Nothing) else eat (Marked RightBrace) (t ∷ ts) go)
        ≡ next (if b then (if is_word (Marked Comma) t.word then eat (Marked RightBrace) ts (Found true) else Nothing) else eat (Marked RightBrace) (t ∷ ts) (Found true)) (λ b rest. go rest)
    by true = behind (is_word (Marked Comma) t.word)
    by false = eat_next (Marked RightBrace) (t ∷ ts) true (λ b rest. go rest)
