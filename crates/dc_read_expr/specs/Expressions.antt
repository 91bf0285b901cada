-- The expressions that begin tokens.
use Rattle.std.specs.Prelude.{◌≡◌, ◌≤◌, List, ◌++◌}
use Rattle.dc_syntax.specs.Tokens.{Token}
use Rattle.dc_syntax.specs.Names.{Names}
use Rattle.dc_syntax.specs.Trees.{Tree, height}
use Rattle.dc_syntax.specs.Grammar.{expression, Is}

-- the first tokens spell this expression, which is at most 128 high, and this is behind them
pub record BeginsWith (env : Names) (ts : List Token) (tree : Tree) (rest : List Token) : Type 0 where
  pub tokens : List Token
  pub whole : ts ≡ tokens ++ rest
  pub spelled : expression tree (Is env tree) tokens
  pub low : height tree ≤ 128
