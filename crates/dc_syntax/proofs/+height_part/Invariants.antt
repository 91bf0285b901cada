use Rattle.std.proofs.Common.{◌≡◌, max, map, drop}
use Rattle.dc_syntax.specs.Heights.{capped, greatest}
use Rattle.dc_syntax.specs.Parts.{height_of}
use Rattle.dc_syntax.specs.UnitView.{part_view}
use Rattle.dc_syntax.proofs.+height_part.Given as goal

abbrev pub invariant-how_high::highest_part-loop-part : goal.invariant-how_high::highest_part-loop-part
invariant-how_high::highest_part-loop-part l = max l.most (capped (greatest height_of (map part_view (drop l.part-index l.part-items)))) ≡ capped (greatest height_of (map part_view l.part-items))
