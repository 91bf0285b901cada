use Rattle.std.proofs.Common.{map, ap, ◌∙◌, sym}
use Rattle.dc_syntax.specs.Heights.{capped}
use Rattle.dc_syntax.specs.UnitView.{part_view}
use Rattle.dc_syntax.proofs.Heights.{height_of-externals_part}
use Rattle.dc_syntax.proofs.how_high.height.Goals as goal

pub returns : goal.returns
unfolding capped
returns c = c.highest_part.ensures ∙ ap capped (sym (height_of-externals_part (map part_view c.args.unit.now.externals)))
