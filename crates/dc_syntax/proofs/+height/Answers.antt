use Rattle.std.proofs.Common.{map, rules, ap, ◌∙◌, arith}
use Rattle.dc_syntax.specs.Heights.{capped, greatest}
use Rattle.dc_syntax.specs.Trees.{height}
use Rattle.dc_syntax.specs.View.{raw_view}
use Rattle.dc_syntax.proofs.Heights.{greatest_more, greatest_through}
use Rattle.dc_syntax.proofs.+height.Goals as goal

pub how_high::highest-loop-tree-preserved : goal.how_high::highest-loop-tree-preserved
how_high::highest-loop-tree-preserved t c =
    greatest_more raw_view height c.as_slice-tree-items.result.now c.loop-tree.tree-index c.tree-item.result _ _ _ (omega arith) (search rules) c.loop-tree.invariant

pub how_high::highest-returns : goal.how_high::highest-returns
how_high::highest-returns t c =
    greatest_through raw_view height c.as_slice-tree-items.result.now c.loop-tree.tree-index _ _ (omega arith) c.loop-tree.invariant ∙ ap (λ l. capped (greatest height (map raw_view l))) c.as_slice-tree-items.ensures
