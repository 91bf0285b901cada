use Rattle.std.proofs.Common.{◌≡◌, ◌+◌, drop, map}
use Rattle.dc_core.specs.Run.{tested}
use Rattle.dc_core.specs.View.{clause_view}
use Rattle.dc_world.specs.Log.{hearing}
use Rattle.dc_run.specs.Part.{IsTold}
use Rattle.dc_run.specs.View.{scope_view}
use Rattle.dc_run.proofs.call.test_ensures.Given as goal

abbrev pub invariant-loop-clause : goal.invariant-loop-clause
invariant-loop-clause g l = record {
  number : l.number ≡ l.clause-index;
  tests : IsTold (tested l.name 1 (scope_view l.scope) l.memory (map clause_view l.clauses))
      (tested l.name (l.number + 1) (scope_view l.scope) l.memory (map clause_view (drop l.clause-index l.clauses)))
      (hearing (g.W.Watch.records l.initial.watch) (g.W.Watch.parts l.initial.watch) l.initial.log)
      (hearing (g.W.Watch.records l.watch) (g.W.Watch.parts l.watch) l.log);
}
