use Rattle.std.proofs.Common.{◌-◌, length, drop}
use Rattle.dc_syntax.specs.Reading as spec
use Rattle.dc_read_expr.proofs.Runs.{Running}
use Rattle.dc_read_expr.proofs.read.Grammar.specs.Given as goal

abbrev pub decreases-loop-run : goal.decreases-loop-run
decreases-loop-run g l = length l.self.tokens.now - l.run.at

abbrev pub invariant-loop-run : goal.invariant-loop-run
invariant-loop-run g l = Running (spec.reads l.self.budget) l.self.budget (spec.specs (spec.reads l.self.budget) l.self.budget l.fn.names.names (drop l.at l.self.tokens.now)) l.self.tokens.now l.at l.run l.scope.names
