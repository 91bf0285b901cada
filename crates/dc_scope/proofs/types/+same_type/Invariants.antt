use Rattle.std.proofs.Common.{◌≡◌, drop, map}
use Rattle.dc_layout.specs.Types.{type_view, types}
use Rattle.dc_scope.specs.SameTypes.{same_parameters}
use Rattle.dc_scope.proofs.types.+same_type.Given as goal

abbrev pub invariant-same_parameters-loop-place : goal.invariant-same_parameters-loop-place
invariant-same_parameters-loop-place l =
    same_parameters (types (map type_view (drop l.place l.left))) (types (map type_view (drop l.place l.right))) ≡ same_parameters (types (map type_view l.left)) (types (map type_view l.right))
