use Rattle.std.proofs.Common.{◌≡◌, ◌++◌}
use Rattle.std.specs.Vec.Iter.{into_iter_items}
use Rattle.dc_scope.proofs.member_names.MemberNames.of.Given as goal

abbrev pub invariant-loop-name : goal.invariant-loop-name
invariant-loop-name l = record {
  inserted : l.members.keys ≡ l.yielded;
  others : l.yielded ++ into_iter_items l.name-iterator ≡ l.fn.names.items;
}
