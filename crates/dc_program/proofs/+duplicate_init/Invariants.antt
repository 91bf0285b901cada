use Rattle.std.proofs.Common.{◌≡◌, take}
use Rattle.dc_program.proofs.+duplicate_init.Given as goal

abbrev pub invariant-statement_copies::inits-loop-one : goal.invariant-statement_copies::inits-loop-one
invariant-statement_copies::inits-loop-one l = l.copy ≡ take l.one-index l.one-items
