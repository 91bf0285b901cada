use Rattle.dc_layout.proofs.Entries.{IsKept-set, all_members-set}
use Rattle.dc_layout.proofs.AllSizes.{sized_whole}
use Rattle.dc_layout.proofs.table.StructTable.complete.Goals as goal

pub unreachable-requires : goal.unreachable-requires
unreachable-requires c = sized_whole c.args.self.now c.args.members c.requires.sized (rw (← c.as_slice.ensures) c.in_default.ensures.value)

pub invariant_of-self : goal.invariant_of-self
invariant_of-self c =
    IsKept-set c.self.inside.structs.items c.args.self.now c.args.s c.args.members c.in-Some.whole c.self.view_is c.self.invariant c.requires.number c.requires.incomplete (rw (← c.as_slice.ensures) c.in-Some.ensures.value) c.in-Some.ensures.small

pub returns : goal.returns
returns c = all_members-set c.self.inside.structs.items c.args.self.now c.args.s c.args.members c.in-Some.whole c.self.view_is
