use Rattle.std.proofs.Common.{◌≡◌, map, drop}
use Rattle.dc_syntax.specs.View.{raw_view}
use Rattle.dc_syntax.proofs.Declaring.{declared_in}
use Rattle.dc_syntax.proofs.declare.declare_specs.Given as goal

abbrev pub invariant-loop-spec : goal.invariant-loop-spec
invariant-loop-spec l = declared_in (map raw_view (drop l.spec-index l.specs)) l.names.names ≡ declared_in (map raw_view l.specs) l.initial.names.names
