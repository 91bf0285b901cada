use Rattle.std.proofs.Common.{◌≡◌, length}
use Rattle.dc_lexer.specs.Words.{value_behind}
use Rattle.dc_lexer.proofs.widths.is_wide_in.Given as goal

abbrev pub invariant-loop-rest : goal.invariant-loop-rest
invariant-loop-rest l = value_behind l.base 0 l.digits ≡ value_behind l.base l.number l.rest

abbrev pub decreases-loop-rest : goal.decreases-loop-rest
decreases-loop-rest l = length l.rest
