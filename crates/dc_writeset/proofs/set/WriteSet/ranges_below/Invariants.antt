use Rattle.std.proofs.Common.{◌≡◌, drop}
use Rattle.std.specs.List.{list_all}
use Rattle.std.specs.Option.{option_copied}
use Rattle.dc_writeset.specs.Sets.{is_range_below}
use Rattle.dc_writeset.proofs.set.WriteSet.ranges_below.Given as goal

abbrev pub invariant-loop-range : goal.invariant-loop-range
invariant-loop-range l =
    list_all (is_range_below (option_copied l.next) l.tag) l.self.ranges ≡ list_all (is_range_below (option_copied l.next) l.tag) (drop l.range-index l.range-items)
