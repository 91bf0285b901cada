use Rattle.std.proofs.Common.{◌∙◌}
use Rattle.dc_layout.specs.Types.{type_view}
use Rattle.dc_typing.proofs.Derivations.{derived-popped}
use Rattle.dc_typing.proofs.declarators.derived.Goals as goal

pub loop-part-preserved : goal.loop-part-preserved
loop-part-preserved c =
    derived-popped c.loop-part.parts c.pop.new.self c.in-Some.part (type_view c.loop-part.t) (type_view c.in_ok-t.t) c.in-Some.ensures c.in_ok-t.ensures
    ∙ c.loop-part.invariant
