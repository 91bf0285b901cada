use Rattle.std.proofs.Common.{refl}
use Rattle.dc_syntax.specs.Parts.{is_loop_clause, are_loop_clauses}
use Rattle.dc_read_unit.proofs.ClauseTests.{IsAll, all_stays, all_fails, all_ends}
use Rattle.dc_read_unit.proofs.clauses.are_loop_clauses.Goals as goal

each : IsAll is_loop_clause are_loop_clauses
each = record { none = refl; some = λ c m. refl }

pub loop-clause-preserved : goal.loop-clause-preserved
loop-clause-preserved c =
    all_stays is_loop_clause are_loop_clauses each c.args.clauses.now c.loop-clause.clause-index c.clause-item.result c.is_loop_clause.result _ c.loop-clause-test.true c.clause-item.is c.is_loop_clause.ensures c.if-not-is_loop_clause.false c.loop-clause.invariant

pub returns-then-not-is_loop_clause : goal.returns-then-not-is_loop_clause
returns-then-not-is_loop_clause c =
    all_fails is_loop_clause are_loop_clauses each c.args.clauses.now c.loop-clause.clause-index c.clause-item.result c.is_loop_clause.result _ c.loop-clause-test.true c.clause-item.is c.is_loop_clause.ensures c.if-not-is_loop_clause.true c.loop-clause.invariant

pub returns : goal.returns
returns c = all_ends is_loop_clause are_loop_clauses each c.args.clauses.now c.loop-clause.clause-index _ c.loop-clause-test.false c.loop-clause.invariant
