use Rattle.std.proofs.Common.{◌≡◌, drop}
use Rattle.std.specs.List.{list_all}
use Rattle.std.specs.Option.{option_copied}
use Rattle.dc_writeset.specs.Sets.{is_object_below}
use Rattle.dc_writeset.proofs.set.WriteSet.frees_below.Given as goal

abbrev pub invariant-loop-free : goal.invariant-loop-free
invariant-loop-free l =
    list_all (is_object_below (option_copied l.next) l.tag) l.self.frees ≡ list_all (is_object_below (option_copied l.next) l.tag) (drop l.free-index l.free-items)
