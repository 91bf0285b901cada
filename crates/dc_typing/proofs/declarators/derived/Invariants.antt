use Rattle.std.proofs.Common.{◌≡◌, length, map}
use Rattle.dc_layout.specs.Types.{type_view}
use Rattle.dc_typing.specs.DerivedView.{derived_view}
use Rattle.dc_typing.specs.TypeNames.{derived}
use Rattle.dc_typing.proofs.declarators.derived.Given as goal

abbrev pub invariant-loop-part : goal.invariant-loop-part
invariant-loop-part l = derived (map derived_view l.parts) (type_view l.t) ≡ derived (map derived_view l.initial.parts) (type_view l.initial.t)

abbrev pub decreases-loop-part : goal.decreases-loop-part
decreases-loop-part l = length l.parts
