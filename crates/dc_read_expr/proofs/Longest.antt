-- What is read with a budget of 128 is the longest expression that begins the tokens.
use Rattle.std.proofs.Common.{◌≡◌, ℕ, zero, suc, ◌<◌, ◌≤◌, List, [], ◌∷◌, length, drop, Option, Some, None, Result, Ok, refl, sym, ap, ◌∙◌, subst, arith}
use Rattle.std.specs.declared.alloc.AllocError.{AllocError}
use Rattle.dc_syntax.specs.declared.raw.Raw.{Raw}
use Rattle.dc_syntax.specs.Tokens.{Token}
use Rattle.dc_syntax.specs.Names.{Names}
use Rattle.dc_syntax.specs.Trees.{Tree}
use Rattle.dc_syntax.specs.Reading.{Out, Nothing, Found, Upto, reads}
use Rattle.dc_syntax.specs.View.{raw_view}
use Rattle.dc_syntax.proofs.Base.{Gives}
use Rattle.dc_syntax.proofs.Sound.{ReadUpto, sound}
use Rattle.dc_syntax.proofs.Reached.{Reached}
use Rattle.dc_syntax.proofs.Heads.{StopsAt}
use Rattle.dc_syntax.proofs.CompleteExpressions.{complete}
use Rattle.dc_read_expr.specs.declared.read.Read.{Read}
use Rattle.dc_read_expr.specs.declared.read.Kind.{Kind}
use Rattle.dc_read_expr.specs.declared.read.Kind.TheVariants as kind
use Rattle.dc_read_expr.specs.View.{Reading, ReadingOf, kind_view}
use Rattle.dc_read_expr.specs.Expressions.{BeginsWith}
use Rattle.dc_read_expr.proofs.Results.{reading_some, reading_none}

found_upto : (env : Names) (ts : List Token) (tree : Tree) (rest : List Token) → reads 128 (Upto 16) env ts ≡ Found tree rest → ReadUpto env 16 128 ts tree rest
found_upto env ts tree rest e = let s = sound 128 in let g : Gives (ReadUpto env 16 128 ts) (Found tree rest) = subst (Gives (ReadUpto env 16 128 ts)) e (s.upto 16 env ts) in g.all

read_is : (env : Names) (ts : List Token) (tree : Tree) (rest : List Token) → reads 128 (Upto 16) env ts ≡ Found tree rest → BeginsWith env ts tree rest
read_is env ts tree rest e =
    let r = found_upto env ts tree rest e in
    record { tokens = r.is.front; whole = r.is.whole; spelled = record { sort = r.sort; level = r.level; is = r.is.is }; low = r.height }

reached : (env : Names) (ts : List Token) (tree : Tree) (rest : List Token) → BeginsWith env ts tree rest → Reached (reads 128 (Upto 16) env ts) tree rest (StopsAt 16 rest)
reached env ts tree rest b =
    let c = complete 128 in
    c.upto 16 (omega arith) env ts tree rest (record { front = b.tokens; whole = b.whole; is = b.spelled.is }) b.spelled.sort b.spelled.level b.low

abbrev rest_of : List Token → Out Tree → List Token
rest_of d Nothing = d
rest_of d (Found tree rest) = rest

longest_is : (env : Names) (ts : List Token) (tree : Tree) (rest : List Token) → reads 128 (Upto 16) env ts ≡ Found tree rest → (tree' : Tree) (rest' : List Token) → BeginsWith env ts tree' rest' → length rest ≤ length rest'
longest_is env ts tree rest e tree' rest' b =
    let r = reached env ts tree' rest' b in
    let same : r.left ≡ rest = ap (rest_of rest) (sym r.is ∙ e) in
    subst (λ l. length l ≤ length rest') same r.past

abbrev found : Out Tree → Type 0
found Nothing = ⊥
found (Found tree rest) = Unit {0}

none_is : (env : Names) (ts : List Token) → reads 128 (Upto 16) env ts ≡ Nothing → (tree : Tree) (rest : List Token) → BeginsWith env ts tree rest → ⊥
none_is env ts e tree rest b = let r = reached env ts tree rest b in subst found (sym r.is ∙ e) tt

drop_all : (ts : List Token) (n : ℕ) → length ts < n → drop n ts ≡ []
drop_all ts zero lt = absurd (omega (arith, lt))
drop_all [] (suc n) lt = refl
drop_all (t ∷ ts) (suc n) lt = drop_all ts n (omega (arith, lt))

-- behind the last token stands nothing
pub none_behind : (env : Names) (tokens : List Token) (at : ℕ) → length tokens < at → (tree : Tree) (rest : List Token) → BeginsWith env (drop at tokens) tree rest → ⊥
none_behind env tokens at lt = none_is env (drop at tokens) (ap (reads 128 (Upto 16) env) (drop_all tokens at lt))

-- what the code has read, or that it has read nothing; the height is a variable, so that nothing is unfolded
module _ (h : ℕ) (full : h ≡ 128) (env : Names) (tokens : List Token) (at : ℕ) (k : Kind) (top : k ≡ kind.Upto 16) (result : Result (Option Read) AllocError)
    (q : ReadingOf k tokens at h result (reads h (kind_view k) env (drop at tokens))) where
  upto : Reading tokens at h result (reads h (Upto 16) env (drop at tokens))
  upto = subst (λ k. ReadingOf k tokens at h result (reads h (kind_view k) env (drop at tokens))) top q

  found_by : (r : Read) → result ≡ Ok (Some r) → reads 128 (Upto 16) env (drop at tokens) ≡ Found (raw_view r.tree) (drop r.at tokens)
  found_by r e = let s = reading_some tokens at h r (reads h (Upto 16) env (drop at tokens)) result upto e in subst (λ h. reads h (Upto 16) env (drop at tokens) ≡ Found (raw_view r.tree) (drop r.at tokens)) full s.found

  pub reading_is : (r : Read) (tree : Raw) → result ≡ Ok (Some r) → tree ≡ r.tree → BeginsWith env (drop at tokens) (raw_view tree) (drop r.at tokens)
  reading_is r tree e t = subst (λ t. BeginsWith env (drop at tokens) (raw_view t) (drop r.at tokens)) (sym t) (read_is env (drop at tokens) (raw_view r.tree) (drop r.at tokens) (found_by r e))

  pub reading_longest : (r : Read) → result ≡ Ok (Some r) → (tree : Tree) (rest : List Token) → BeginsWith env (drop at tokens) tree rest → length (drop r.at tokens) ≤ length rest
  reading_longest r e = longest_is env (drop at tokens) (raw_view r.tree) (drop r.at tokens) (found_by r e)

  pub reading_none_is : result ≡ Ok None → (tree : Tree) (rest : List Token) → BeginsWith env (drop at tokens) tree rest → ⊥
  reading_none_is e = none_is env (drop at tokens) (subst (λ h. reads h (Upto 16) env (drop at tokens) ≡ Nothing) full (reading_none tokens at h (reads h (Upto 16) env (drop at tokens)) result upto e))
