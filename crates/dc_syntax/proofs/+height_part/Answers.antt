use Rattle.std.proofs.Common.{map, rules, ap, ◌∙◌, arith}
use Rattle.dc_syntax.specs.Heights.{capped, greatest}
use Rattle.dc_syntax.specs.Parts.{height_of}
use Rattle.dc_syntax.specs.UnitView.{part_view}
use Rattle.dc_syntax.proofs.Heights.{greatest_more, greatest_through}
use Rattle.dc_syntax.proofs.+height_part.Goals as goal

pub how_high::highest_part-loop-part-preserved : goal.how_high::highest_part-loop-part-preserved
how_high::highest_part-loop-part-preserved t c =
    greatest_more part_view height_of c.as_slice-part-items.result.now c.loop-part.part-index c.part-item.result _ _ _ (omega arith) (search rules) c.loop-part.invariant

pub how_high::highest_part-returns : goal.how_high::highest_part-returns
how_high::highest_part-returns t c =
    greatest_through part_view height_of c.as_slice-part-items.result.now c.loop-part.part-index _ _ (omega arith) c.loop-part.invariant ∙ ap (λ l. capped (greatest height_of (map part_view l))) c.as_slice-part-items.ensures
