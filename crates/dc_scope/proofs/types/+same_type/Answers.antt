use Rattle.std.proofs.Common.{arith}
use Rattle.dc_scope.proofs.Parameters.{parameters_same-length, parameters_differ, parameters_agree}
use Rattle.dc_scope.proofs.types.+same_type.Goals as goal

pub same_parameters-returns-then-left-right : goal.same_parameters-returns-then-left-right
same_parameters-returns-then-left-right t c = parameters_same-length c.args.left.now c.args.right.now c.if-left-right.true

pub same_parameters-returns-then-not-same_parameter : goal.same_parameters-returns-then-not-same_parameter
same_parameters-returns-then-not-same_parameter t c =
    parameters_differ c.args.left.now c.args.right.now c.loop-place.place _ _ _ (omega arith) (omega arith) c.index-left-place.is c.index-right-place.is
    c.same_parameter.ensures c.if-not-same_parameter.true c.loop-place.invariant

pub same_parameters-loop-place-preserved : goal.same_parameters-loop-place-preserved
same_parameters-loop-place-preserved t c =
    parameters_agree c.args.left.now c.args.right.now c.loop-place.place _ _ _ (omega arith) (omega arith) c.index-left-place.is c.index-right-place.is
    c.same_parameter.ensures c.if-not-same_parameter.false c.loop-place.invariant
