use Rattle.std.proofs.Common.{◌≡◌, ◌≤◌, length, reverse, take}
use Rattle.dc_scope.specs.Scopes.{found_among}
use Rattle.dc_scope.proofs.scopes.find_around.Given as goal

abbrev pub invariant-loop-at : goal.invariant-loop-at
invariant-loop-at l = record {
  within : l.at ≤ length l.scopes;
  others : found_among (reverse (take l.at l.scopes)) l.space l.name ≡ found_among (reverse l.scopes) l.space l.name;
}

abbrev pub decreases-loop-at : goal.decreases-loop-at
decreases-loop-at l = l.at
