use Rattle.dc_layout.proofs.Entries.{IsKept-push}
use Rattle.dc_layout.proofs.table.StructTable.add.Goals as goal

pub invariant_of-self-2 : goal.invariant_of-self-2
invariant_of-self-2 c = rw c.in_ok-push.ensures.items (IsKept-push c.self.inside.structs.items c.self.invariant)
