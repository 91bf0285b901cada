use Rattle.std.proofs.Common.{◌-◌, length, drop}
use Rattle.dc_syntax.specs.Reading as spec
use Rattle.dc_read_expr.specs.View.{closed_members}
use Rattle.dc_read_expr.proofs.Gathering.{Gathered}
use Rattle.dc_read_expr.proofs.read.Grammar.members.Given as goal

abbrev pub decreases-loop-scope : goal.decreases-loop-scope
decreases-loop-scope g l = length l.self.tokens.now - l.list.at

abbrev pub invariant-loop-scope : goal.invariant-loop-scope
invariant-loop-scope g l =
    Gathered (spec.reads l.self.budget) (closed_members (spec.reads l.self.budget) l.fn.names.names (length (drop l.at l.self.tokens.now)) (drop l.at l.self.tokens.now))
    l.self.tokens.now l.at l.self.budget l.list.items l.list.height l.scope.names l.list.at
