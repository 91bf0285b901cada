use Rattle.std.proofs.Common.{◌≡◌, drop}
use Rattle.dc_memory.specs.Context.{is_among}
use Rattle.dc_value.proofs.ranges.is_seen.Given as goal

abbrev pub invariant-loop-listed : goal.invariant-loop-listed
invariant-loop-listed l = is_among l.object l.seen ≡ is_among l.object (drop l.listed-index l.seen)
