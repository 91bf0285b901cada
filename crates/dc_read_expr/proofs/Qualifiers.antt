-- The loop over the qualifiers behind a star.
use Rattle.std.proofs.Common.{◌≡◌, ℕ, ◌+◌, if◌then◌else◌, List, [], ◌∷◌, ◌++◌, drop, Option, Some, None, refl, sym, ap, ◌∙◌, subst, append_assoc}
use Rattle.dc_syntax.specs.declared.keyword.Keyword.{Keyword}
use Rattle.dc_syntax.specs.Tokens.{Token}
use Rattle.dc_syntax.specs.Trees.{Tree}
use Rattle.dc_syntax.specs.Reading.{Out, qualified, qualified_at}
use Rattle.dc_read_expr.specs.Qualifiers.{Qualifies, IsQualifier, NextQualifier}

-- these have been read, and whatever is read from here stands behind them
pub record QualifiedSoFar (ts : List Token) (ks : List Keyword) (now : List Token) : Type 0 where
  pub joined : (more : List Keyword) (rest : List Token) → Qualifies now more rest → Qualifies ts (ks ++ more) rest

pub qualified_starts : (ts : List Token) → QualifiedSoFar ts [] ts
qualified_starts ts = record { joined = λ more rest q. q }

pub qualified_more : (ts : List Token) (ks : List Keyword) (tokens : List Token) (at : ℕ) (k : Keyword) → QualifiedSoFar ts ks (drop at tokens) → IsQualifier tokens at k
    → QualifiedSoFar ts (ks ++ k ∷ []) (drop (at + 1) tokens)
qualified_more ts ks tokens at k s n = record { joined = λ more rest q. record { read = λ go. (s.joined (k ∷ more) rest (one more rest q)).read go ∙ ap (λ l. go l rest) (sym (append_assoc ks (k ∷ []) more)) } }
  where
    one : (more : List Keyword) (rest : List Token) → Qualifies (drop (at + 1) tokens) more rest → Qualifies (drop at tokens) (k ∷ more) rest
    one more rest q = record {
      read = λ go. let t = n.next.token in
          let taken = λ (l : Keyword). qualified (drop (at + 1) tokens) (λ ks rest. go (l ∷ ks) rest) in
          ap (λ ts. qualified ts go) n.next.whole ∙ (ap (λ w. qualified_at w taken (go [] (t ∷ drop (at + 1) tokens))) n.next.word
          ∙ (ap (λ b. if b then taken k else go [] (t ∷ drop (at + 1) tokens)) n.is ∙ q.read (λ ks rest. go (k ∷ ks) rest)));
    }

append_nil : (ks : List Keyword) → ks ++ [] ≡ ks
append_nil [] = refl
append_nil (k ∷ ks) = ap (λ l. k ∷ l) (append_nil ks)

pub qualified_ends : (ts : List Token) (ks : List Keyword) (now : List Token) → QualifiedSoFar ts ks now → Qualifies now [] now → Qualifies ts ks now
qualified_ends ts ks now s q = subst (λ l. Qualifies ts l now) (append_nil ks) (s.joined [] now q)

pub qualified_turn : (ts : List Token) (ks ks' : List Keyword) (tokens : List Token) (at : ℕ) (k : Keyword) (o : Option Keyword) → QualifiedSoFar ts ks (drop at tokens) → NextQualifier tokens at o → o ≡ Some k → ks' ≡ ks ++ k ∷ []
    → QualifiedSoFar ts ks' (drop (at + 1) tokens)
qualified_turn ts ks ks' tokens at k o s n is e = subst (λ l. QualifiedSoFar ts l (drop (at + 1) tokens)) (sym e) (qualified_more ts ks tokens at k s (subst (λ o. NextQualifier tokens at o) is n))

pub qualifier_is : (tokens : List Token) (at : ℕ) (k : Keyword) (o : Option Keyword) → NextQualifier tokens at o → o ≡ Some k → IsQualifier tokens at k
qualifier_is tokens at k o n is = subst (λ o. NextQualifier tokens at o) is n

pub qualified_whole : (ts : List Token) (ks : List Keyword) (tokens : List Token) (at : ℕ) (o : Option Keyword) → QualifiedSoFar ts ks (drop at tokens) → NextQualifier tokens at o → o ≡ None
    → (go : List Keyword → List Token → Out Tree) → qualified ts go ≡ go ks (drop at tokens)
qualified_whole ts ks tokens at o s n is go = (qualified_ends ts ks (drop at tokens) s (subst (λ o. NextQualifier tokens at o) is n)).read go
