use Rattle.std.proofs.Common.{◌≡◌, drop, map}
use Rattle.dc_memory.specs.Context.{some_contains}
use Rattle.dc_writeset.proofs.named.some_has.Given as goal

abbrev pub invariant-loop-range : goal.invariant-loop-range
invariant-loop-range l =
    some_contains (map (λ r. r.range) l.ranges) l.object l.from l.len ≡ some_contains (map (λ r. r.range) (drop l.range-index l.ranges)) l.object l.from l.len
