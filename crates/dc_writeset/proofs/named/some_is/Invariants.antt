use Rattle.std.proofs.Common.{◌≡◌, drop, map}
use Rattle.dc_memory.specs.Context.{is_among}
use Rattle.dc_writeset.proofs.named.some_is.Given as goal

abbrev pub invariant-loop-tagged : goal.invariant-loop-tagged
invariant-loop-tagged l = is_among l.object (map (λ f. f.object) l.objects) ≡ is_among l.object (map (λ f. f.object) (drop l.tagged-index l.objects))
