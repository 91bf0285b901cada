use Rattle.std.proofs.Common.{map, arith}
use Rattle.dc_syntax.specs.View.{raw_view}
use Rattle.dc_syntax.proofs.Declaring.{declared_through, declared-specs_tree}
use Rattle.dc_syntax.proofs.declare.declare_specs.Goals as goal

pub returns : goal.returns
returns c =
    declared_through c.args.specs.now c.loop-spec.spec-index _ _ _ (omega arith) c.loop-spec.invariant (declared-specs_tree (map raw_view c.args.specs.now) c.args.names.now.names)
