use Rattle.std.proofs.Common.{◌≡◌}
use Rattle.dc_rules.proofs.Likeness.{rest_same}
use Rattle.dc_rules.proofs.equality.+same.Given as goal

abbrev pub invariant-all_same-loop-i : goal.invariant-all_same-loop-i
invariant-all_same-loop-i l = rest_same l.i l.types l.others ≡ rest_same 0 l.types l.others
