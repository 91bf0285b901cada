use Rattle.std.proofs.Common.{◌≡◌, drop, map}
use Rattle.dc_core.specs.Contract.{all_hold}
use Rattle.dc_core.specs.View.{clause_view}
use Rattle.dc_run.specs.View.{scope_view}
use Rattle.dc_run.proofs.clause.all_hold.Given as goal

abbrev pub invariant-loop-clause : goal.invariant-loop-clause
invariant-loop-clause l =
    all_hold (scope_view l.scope) l.memory (map clause_view l.clauses) ≡ all_hold (scope_view l.scope) l.memory (map clause_view (drop l.clause-index l.clauses))
