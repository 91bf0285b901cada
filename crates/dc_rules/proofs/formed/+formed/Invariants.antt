use Rattle.std.proofs.Common.{◌≡◌, drop}
use Rattle.dc_layout.specs.Types.{structs_view}
use Rattle.dc_program.specs.WellFormed.{are_parameters}
use Rattle.dc_rules.specs.Seen.{types_view}
use Rattle.dc_rules.proofs.formed.+formed.Given as goal

abbrev pub invariant-are_parameters-loop-one : goal.invariant-are_parameters-loop-one
invariant-are_parameters-loop-one l =
    are_parameters (structs_view l.structs) (types_view (drop l.one-index l.types)) ≡ are_parameters (structs_view l.structs) (types_view l.types)
