use Rattle.std.proofs.Common.{◌≡◌, take}
use Rattle.dc_layout.proofs.ctype.+duplicate.Given as goal

abbrev pub invariant-duplicates-loop-one : goal.invariant-duplicates-loop-one
invariant-duplicates-loop-one l = l.copies ≡ take l.one-index l.types
