-- The lengths and parameters behind a declarator, closed: a goal that names them does not show how they are read.
use Rattle.std.specs.Prelude.{ℕ, suc, List}
use Rattle.dc_syntax.specs.Tokens.{Token}
use Rattle.dc_syntax.specs.Names.{Names}
use Rattle.dc_syntax.specs.Trees.{Tree}
use Rattle.dc_syntax.specs.Reading as spec
use Rattle.dc_syntax.specs.Reading.{Reads, Out}

unfoldable pub suffix_turns : Reads → ℕ → Names → List Token → Tree → List Token → Out Tree
suffix_turns r h env all e rest = spec.loop (spec.suffix_one r h env) h (suc h) all e rest
