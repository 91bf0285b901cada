use Rattle.std.proofs.Common.{◌≡◌, take}
use Rattle.dc_program.proofs.+duplicate_expr.Given as goal

abbrev pub invariant-expression_copies::expressions-loop-one : goal.invariant-expression_copies::expressions-loop-one
invariant-expression_copies::expressions-loop-one l = l.copy ≡ take l.one-index l.one-items
