use Rattle.std.proofs.Common.{◌∙◌, sym, arith}
use Rattle.dc_layout.specs.Types.{structs_view}
use Rattle.dc_layout.specs.Layout.{struct_extent}
use Rattle.dc_layout.proofs.Walks.{walked-first, walked-drop, walked-all}
use Rattle.dc_layout.proofs.sizes.placed.Goals as goal

pub loop-member-init : goal.loop-member-init
loop-member-init c = record {
  rest = walked-first (structs_view c.args.table.now) c.args.members.now;
  small = record { size = omega arith; some = omega arith; few = omega arith };
}

pub returns-in-None-clause-value : goal.returns-in-None-clause-value
returns-in-None-clause-value c =
    sym (walked-drop (struct_extent (structs_view c.args.table.now)) c.loop-member.placed c.args.members.now c.loop-member.member-index c.member-item.result _ (omega arith) c.member-item.is c.in-None.ensures.value)
    ∙ c.loop-member.invariant.rest

pub loop-member-preserved : goal.loop-member-preserved
loop-member-preserved c =
    let next = walked-drop (struct_extent (structs_view c.args.table.now)) c.loop-member.placed c.args.members.now c.loop-member.member-index c.member-item.result _ (omega arith) c.member-item.is c.in-Some.ensures.value in
    record { rest = rw c.with-placed.ensures.value (sym next ∙ c.loop-member.invariant.rest); small = c.with-placed.ensures.small }

pub returns-clause-value : goal.returns-clause-value
returns-clause-value c =
    sym (walked-all (struct_extent (structs_view c.args.table.now)) c.loop-member.placed c.args.members.now c.loop-member.member-index (omega arith))
    ∙ c.loop-member.invariant.rest
