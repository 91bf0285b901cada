use Rattle.std.proofs.Common.{◌≡◌, drop}
use Rattle.dc_layout.specs.Types.{structs_view}
use Rattle.dc_layout.specs.Layout.{struct_extent}
use Rattle.dc_layout.specs.Kept.{IsSmall}
use Rattle.dc_layout.specs.Members.{placed_of}
use Rattle.dc_layout.proofs.Walks.{walked}
use Rattle.dc_layout.proofs.sizes.placed.Given as goal

abbrev pub invariant-loop-member : goal.invariant-loop-member
invariant-loop-member l = record {
  rest : walked (struct_extent (structs_view l.table)) l.placed (drop l.member-index l.members) ≡ placed_of (structs_view l.table) l.members;
  small : IsSmall l.placed;
}
