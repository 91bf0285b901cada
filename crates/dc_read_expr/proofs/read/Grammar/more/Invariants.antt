use Rattle.std.proofs.Common.{◌-◌, length, drop}
use Rattle.dc_syntax.specs.Reading as spec
use Rattle.dc_read_expr.specs.View.{item_view, one_of}
use Rattle.dc_read_expr.proofs.Commas.{Walked}
use Rattle.dc_read_expr.proofs.read.Grammar.more.Given as goal

abbrev pub decreases-loop-item : goal.decreases-loop-item
decreases-loop-item g l = length l.self.tokens.now - l.list.at

abbrev pub invariant-loop-item : goal.invariant-loop-item
invariant-loop-item g l =
    Walked (one_of (spec.reads l.self.budget) l.self.budget (item_view l.item)) (item_view l.item)
    (spec.more (one_of (spec.reads l.self.budget) l.self.budget (item_view l.item)) (item_view l.item) l.fn.names.names (length (drop l.at l.self.tokens.now)) (drop l.at l.self.tokens.now))
    l.self.tokens.now l.at l.self.budget l.list.items l.list.height l.scope.names l.list.at
