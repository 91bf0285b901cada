use Rattle.std.proofs.Common.{◌≡◌, drop}
use Rattle.dc_memory.specs.Context.{is_among}
use Rattle.dc_writeset.proofs.named.is_since.Given as goal

abbrev pub invariant-loop-listed : goal.invariant-loop-listed
invariant-loop-listed l = is_among l.object (drop l.start l.objects) ≡ is_among l.object (drop l.listed-index l.listed-items)
