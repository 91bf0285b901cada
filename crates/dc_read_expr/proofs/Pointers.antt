-- A star with its qualifiers, and the declarator behind them.
use Rattle.std.proofs.Common.{◌≡◌, ℕ, suc, ◌+◌, true, if◌then◌else◌, List, drop, refl, ap, ◌∙◌, arith}
use Rattle.dc_syntax.specs.declared.mark.Mark.TheVariants.{Star}
use Rattle.dc_syntax.specs.declared.keyword.Keyword.{Keyword}
use Rattle.dc_syntax.specs.declared.raw.Raw.TheViews as raw
use Rattle.dc_syntax.specs.Tokens.{Word, Marked, Token, Place, is_word}
use Rattle.dc_syntax.specs.Names.{Names}
use Rattle.dc_syntax.specs.Trees.{Tree, Pointer}
use Rattle.dc_syntax.specs.Reading.{Out, Nothing, Found, Reads, next, between, found, begins, eat, declarator_or_none, qualified, loop, direct, suffix_one, declarator}
use Rattle.dc_syntax.specs.View.{raw_view}
use Rattle.dc_read_expr.specs.declared.read.Read.{Read}
use Rattle.dc_read_expr.specs.declared.declarators.ReadQualifiers.{ReadQualifiers}
use Rattle.dc_read_expr.specs.View.{IsNext, IsLooseReading, IsQualifying}
use Rattle.dc_read_expr.proofs.Placed.{placed_reading, loosely}
use Rattle.dc_read_expr.proofs.Shapes.{raw_view-Pointer}

pub begins_at : (w : Word) (tokens : List Token) (at : ℕ) → is_word w w ≡ true → IsNext tokens at w → begins w (drop at tokens) ≡ true
begins_at w tokens at y n = ap (begins w) n.whole ∙ (ap (is_word w) n.word ∙ y)

pub eat_at : (w : Word) (tokens : List Token) (at : ℕ) (go : List Token → Out Tree) → is_word w w ≡ true → IsNext tokens at w → eat w (drop at tokens) go ≡ go (drop (at + 1) tokens)
eat_at w tokens at go y n = ap (λ ts. eat w ts go) n.whole ∙ ap (λ b. if b then go (drop (at + 1) tokens) else Nothing) (ap (is_word w) n.word ∙ y)

abbrev behind_star : Reads → Names → List Token → List Keyword → List Token → Out Tree
behind_star r env all ks rest = next (declarator_or_none r env rest) (λ d rest. found all (Pointer ks d) rest)

pointer_is : (r : Reads) (h : ℕ) (env : Names) (tokens : List Token) (at : ℕ) (ks : List Keyword) (rest : List Token) → IsNext tokens at (Marked Star) → ((go : List Keyword → List Token → Out Tree) → qualified (drop (at + 1) tokens) go ≡ go ks rest)
    → declarator r h env (drop at tokens) ≡ behind_star r env (drop at tokens) ks rest
pointer_is r h env tokens at ks rest n q =
    let all = drop at tokens in
    let go = λ (ts : List Token). qualified ts (behind_star r env all) in
    ap (λ b. if b then eat (Marked Star) all go else next (direct r env all) (λ d rest. loop (suffix_one r h env) h (suc h) all d rest)) (begins_at (Marked Star) tokens at refl n)
    ∙ (eat_at (Marked Star) tokens at go refl n ∙ q (behind_star r env all))

pub pointer_none : (r : Reads) (h : ℕ) (env : Names) (tokens : List Token) (at : ℕ) (ks : List Keyword) (rest : List Token) → IsNext tokens at (Marked Star) → ((go : List Keyword → List Token → Out Tree) → qualified (drop (at + 1) tokens) go ≡ go ks rest)
    → declarator_or_none r env rest ≡ Nothing → declarator r h env (drop at tokens) ≡ Nothing
pointer_none r h env tokens at ks rest n q e = pointer_is r h env tokens at ks rest n q ∙ ap (λ o. next o (λ d rest. found (drop at tokens) (Pointer ks d) rest)) e

pointer_found : (r : Reads) (h : ℕ) (env : Names) (tokens : List Token) (at : ℕ) (ks : List Keyword) (rest : List Token) (d : Tree) (rest' : List Token) → IsNext tokens at (Marked Star) → ((go : List Keyword → List Token → Out Tree) → qualified (drop (at + 1) tokens) go ≡ go ks rest)
    → declarator_or_none r env rest ≡ Found d rest' → declarator r h env (drop at tokens) ≡ Found (Pointer ks d (between (drop at tokens) rest')) rest'
pointer_found r h env tokens at ks rest d rest' n q e = pointer_is r h env tokens at ks rest n q ∙ ap (λ o. next o (λ d rest. found (drop at tokens) (Pointer ks d) rest)) e

pub pointer_reading : (r : Reads) (h : ℕ) (env : Names) (tokens : List Token) (at : ℕ) (qualifiers : ReadQualifiers) (d : Read) (p : Place) (read : Read) → IsNext tokens at (Marked Star) → IsQualifying tokens (at + 1) qualifiers
    → IsLooseReading tokens qualifiers.at h d (declarator_or_none r env (drop qualifiers.at tokens)) → read.tree ≡ raw.Pointer qualifiers.keywords d.tree p → p ≡ between (drop at tokens) (drop d.at tokens) → read.height ≡ d.height + 1 → read.at ≡ d.at
    → IsLooseReading tokens at (h + 1) read (declarator r h env (drop at tokens))
pointer_reading r h env tokens at qualifiers d p read n k q tree place high there =
    loosely tokens at (h + 1) read _
    (placed_reading tokens at d.at (h + 1) (Pointer qualifiers.keywords (raw_view d.tree)) p read _
    (pointer_found r h env tokens at qualifiers.keywords (drop qualifiers.at tokens) (raw_view d.tree) (drop d.at tokens) n k.found q.found)
    (ap raw_view tree ∙ raw_view-Pointer qualifiers.keywords d.tree p) place (omega (arith, high, q.high)) (omega (arith, high, q.short)) (omega (arith, k.after, q.after)) (omega (arith, q.within)) there)
