use Rattle.std.proofs.Common.{◌≡◌, map, drop}
use Rattle.dc_syntax.specs.View.{raw_view}
use Rattle.dc_syntax.proofs.Declaring.{declared_in}
use Rattle.dc_syntax.proofs.raw.Raw.declare_parameters.Given as goal

abbrev pub invariant-loop-parameter : goal.invariant-loop-parameter
invariant-loop-parameter l = declared_in (map raw_view (drop l.parameter-index l.parameters)) l.names.names ≡ declared_in (map raw_view l.parameters) l.initial.names.names
