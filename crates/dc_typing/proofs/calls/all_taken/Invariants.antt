use Rattle.std.proofs.Common.{◌≡◌, drop}
use Rattle.dc_layout.specs.Types.{structs_view}
use Rattle.dc_rules.specs.Seen.{types_view}
use Rattle.dc_typing.specs.Calls.{all_taken}
use Rattle.dc_typing.specs.Seen.{exprs_view}
use Rattle.dc_typing.proofs.calls.all_taken.Given as goal

abbrev pub invariant-loop-one : goal.invariant-loop-one
invariant-loop-one l =
    all_taken (structs_view l.structs) (types_view (drop l.one-index l.types)) (exprs_view l.left) ≡ all_taken (structs_view l.structs) (types_view l.types) (exprs_view l.arguments)
