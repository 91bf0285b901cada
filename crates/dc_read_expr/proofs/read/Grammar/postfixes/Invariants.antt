use Rattle.std.proofs.Common.{◌≡◌, suc, ◌+◌, ◌-◌, ◌<◌, ◌≤◌, length, drop}
use Rattle.dc_syntax.specs.Trees.{height}
use Rattle.dc_syntax.specs.Reading as spec
use Rattle.dc_syntax.specs.View.{raw_view}
use Rattle.dc_read_expr.specs.Levels as level
use Rattle.dc_read_expr.proofs.Turns.{Spun}
use Rattle.dc_read_expr.proofs.read.Grammar.postfixes.Given as goal

abbrev pub decreases-loop-read : goal.decreases-loop-read
decreases-loop-read g l = suc l.self.budget - l.read.height

abbrev pub invariant-loop-read : goal.invariant-loop-read
invariant-loop-read g l =
    record {
      spun : Spun (spec.postfix_one (spec.reads l.self.budget) l.self.names.now.names) l.self.budget (drop l.at l.self.tokens.now)
          (level.postfix_turns (spec.reads l.self.budget) l.self.budget l.self.names.now.names (drop l.at l.self.tokens.now) (raw_view l.fn.first.tree) (drop l.fn.first.at l.self.tokens.now))
          (raw_view l.read.tree) (drop l.read.at l.self.tokens.now);
      high : l.read.height ≡ height (raw_view l.read.tree);
      short : l.read.height ≤ l.self.budget + 1;
      after : l.at < l.read.at;
      within : l.read.at ≤ length l.self.tokens.now;
    }
