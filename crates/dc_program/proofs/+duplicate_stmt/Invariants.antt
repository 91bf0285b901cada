use Rattle.std.proofs.Common.{◌≡◌, take}
use Rattle.dc_program.proofs.+duplicate_stmt.Given as goal

abbrev pub invariant-statement_copies::statements-loop-one : goal.invariant-statement_copies::statements-loop-one
invariant-statement_copies::statements-loop-one l = l.copy ≡ take l.one-index l.one-items
