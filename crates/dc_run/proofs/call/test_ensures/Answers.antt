use Rattle.std.proofs.Common.{arith, ap, ◌∙◌, ◌+◌, drop}
use Rattle.dc_core.specs.Assertion.{postcondition_name}
use Rattle.dc_core.specs.Contract.{holds}
use Rattle.dc_core.specs.Run.{checked}
use Rattle.dc_core.specs.Value.{value}
use Rattle.dc_core.specs.View.{clause_view}
use Rattle.dc_run.specs.View.{scope_view}
use Rattle.dc_run.proofs.Calls.{told_more, tested_more, drop_next, clause_checked}
use Rattle.dc_run.proofs.call.test_ensures.Goals as goal

pub loop-clause-preserved : goal.loop-clause-preserved
loop-clause-preserved g c = record {
  number = omega (arith, c.loop-clause.invariant.number);
  tests =
      told_more _ _ _ (checked (postcondition_name c.args.name.now (c.loop-clause.number + 1)) (holds (value (scope_view c.args.scope.now) c.args.memory.now (clause_view c.clause-item.result)))) _ _ _ c.loop-clause.invariant.tests
      (tested_more c.args.name.now (c.loop-clause.number + 1) (scope_view c.args.scope.now) c.args.memory.now (drop c.loop-clause.clause-index c.args.clauses.now) (drop (c.loop-clause.clause-index + 1) c.args.clauses.now) c.clause-item.result
      (drop_next c.args.clauses.now c.loop-clause.clause-index c.clause-item.result c.clause-item.result c.clause-item.is (omega arith)))
      (clause_checked c.args.name.now (c.loop-clause.number + 1) c.as_slice.result.now c.holds-held.result _ _ _ c.in_ok-check-2.ensures.ok (c.as_slice.ensures ∙ c.in_ok-check.ensures) (c.holds-held.ensures ∙ ap holds c.value.ensures));
}
