use Rattle.std.proofs.Common.{◌≡◌, take}
use Rattle.dc_layout.proofs.table.StructTable.duplicate.Given as goal

abbrev pub invariant-loop-one : goal.invariant-loop-one
invariant-loop-one l = l.structs.items ≡ take l.one-index l.one-items
