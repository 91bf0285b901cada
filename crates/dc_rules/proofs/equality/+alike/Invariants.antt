use Rattle.std.proofs.Common.{◌≡◌}
use Rattle.dc_rules.proofs.Likeness.{rest_alike}
use Rattle.dc_rules.proofs.equality.+alike.Given as goal

abbrev pub invariant-all_alike-loop-i : goal.invariant-all_alike-loop-i
invariant-all_alike-loop-i l = rest_alike l.i l.types l.others ≡ rest_alike 0 l.types l.others
