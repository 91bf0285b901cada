use Rattle.std.proofs.Common.{◌-◌, ◌≤◌, length, drop}
use Rattle.dc_read_expr.proofs.Qualifiers.{QualifiedSoFar}
use Rattle.dc_read_expr.proofs.read.Grammar.qualified.Given as goal

abbrev pub decreases-loop-keyword : goal.decreases-loop-keyword
decreases-loop-keyword g l = length l.self.tokens.now - l.end

abbrev pub invariant-loop-keyword : goal.invariant-loop-keyword
invariant-loop-keyword g l =
    record {
      so_far : QualifiedSoFar (drop l.at l.self.tokens.now) l.keywords (drop l.end l.self.tokens.now);
      after : l.at ≤ l.end;
      within : l.end ≤ length l.self.tokens.now;
    }
