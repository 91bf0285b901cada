use Rattle.std.proofs.Common.{◌-◌, length, drop}
use Rattle.dc_syntax.specs.Trees.{Parameters}
use Rattle.dc_syntax.specs.Reading as spec
use Rattle.dc_read_expr.proofs.Commas.{Walked}
use Rattle.dc_read_expr.proofs.read.Grammar.more_parameters.Given as goal

abbrev pub decreases-loop-scope : goal.decreases-loop-scope
decreases-loop-scope g l = length l.self.tokens.now - l.list.at

abbrev pub invariant-loop-scope : goal.invariant-loop-scope
invariant-loop-scope g l =
    Walked (spec.parameter (spec.reads l.self.budget) l.self.budget) Parameters
    (spec.more (spec.parameter (spec.reads l.self.budget) l.self.budget) Parameters l.fn.names.names (length (drop l.at l.self.tokens.now)) (drop l.at l.self.tokens.now))
    l.self.tokens.now l.at l.self.budget l.list.items l.list.height l.scope.names l.list.at
