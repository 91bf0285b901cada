use Rattle.std.proofs.Common.{◌≡◌, max, map, drop}
use Rattle.dc_syntax.specs.Heights.{capped, greatest}
use Rattle.dc_syntax.specs.Trees.{height}
use Rattle.dc_syntax.specs.View.{raw_view}
use Rattle.dc_syntax.proofs.+height.Given as goal

abbrev pub invariant-how_high::highest-loop-tree : goal.invariant-how_high::highest-loop-tree
invariant-how_high::highest-loop-tree l = max l.most (capped (greatest height (map raw_view (drop l.tree-index l.tree-items)))) ≡ capped (greatest height (map raw_view l.tree-items))
