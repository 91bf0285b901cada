-- The qualifier at a place, if there is one.
use Rattle.std.specs.Prelude.{◌≡◌, ℕ, true, List, [], drop, Option, Some, None}
use Rattle.dc_syntax.specs.declared.keyword.Keyword.{Keyword}
use Rattle.dc_syntax.specs.Tokens.{Reserved, Token, is_qualifier}
use Rattle.dc_syntax.specs.Trees.{Tree}
use Rattle.dc_syntax.specs.Reading.{Out, qualified}
use Rattle.dc_read_expr.specs.View.{IsNext}

-- what is read of qualifiers
pub record Qualifies (ts : List Token) (ks : List Keyword) (rest : List Token) : Type 0 where
  pub read : (go : List Keyword → List Token → Out Tree) → qualified ts go ≡ go ks rest

pub record IsQualifier (tokens : List Token) (at : ℕ) (k : Keyword) : Type 0 where
  pub next : IsNext tokens at (Reserved k)
  pub is : is_qualifier k ≡ true

abbrev pub NextQualifier : List Token → ℕ → Option Keyword → Type 0
NextQualifier tokens at None = Qualifies (drop at tokens) [] (drop at tokens)
NextQualifier tokens at (Some k) = IsQualifier tokens at k
