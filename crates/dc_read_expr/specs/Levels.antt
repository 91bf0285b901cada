-- The definition's levels above a cast, closed: a goal that names one does not show all those below it.
use Rattle.std.specs.Prelude.{ℕ, suc, List}
use Rattle.dc_syntax.specs.Tokens.{Token}
use Rattle.dc_syntax.specs.Names.{Names}
use Rattle.dc_syntax.specs.Trees.{Tree}
use Rattle.dc_syntax.specs.Reading as spec
use Rattle.dc_syntax.specs.Reading.{Reads, Out}

unfoldable pub postfix_turns : Reads → ℕ → Names → List Token → Tree → List Token → Out Tree
postfix_turns r h env all e rest = spec.loop (spec.postfix_one r env) h (suc h) all e rest

unfoldable pub binary_turns : Reads → ℕ → Names → ℕ → List Token → Tree → List Token → Out Tree
binary_turns r h env n all e rest = spec.loop (spec.binary_one r env n) h (suc h) all e rest

unfoldable pub binary : Reads → ℕ → Names → ℕ → List Token → Out Tree
binary r h env n ts = spec.binary r h env n ts

unfoldable pub implies_one : Reads → Names → List Token → Tree → List Token → Out Tree
implies_one r env all e rest = spec.implies_one r env all e rest

unfoldable pub implied : Reads → ℕ → Names → List Token → Out Tree
implied r h env ts = spec.implied r h env ts

unfoldable pub conditional_one : Reads → Names → List Token → Tree → List Token → Out Tree
conditional_one r env all e rest = spec.conditional_one r env all e rest

unfoldable pub conditional : Reads → ℕ → Names → List Token → Out Tree
conditional r h env ts = spec.conditional r h env ts

unfoldable pub assign_one : Reads → Names → List Token → Tree → List Token → Out Tree
assign_one r env all e rest = spec.assign_one r env all e rest

unfoldable pub assign : Reads → ℕ → Names → List Token → Out Tree
assign r h env ts = spec.assign r h env ts

unfoldable pub upto : Reads → ℕ → Names → ℕ → List Token → Out Tree
upto r h env k ts = spec.upto r h env k ts
