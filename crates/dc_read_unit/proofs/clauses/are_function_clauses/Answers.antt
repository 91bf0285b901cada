use Rattle.std.proofs.Common.{refl}
use Rattle.dc_syntax.specs.Parts.{is_function_clause, are_function_clauses}
use Rattle.dc_read_unit.proofs.ClauseTests.{IsAll, all_stays, all_fails, all_ends}
use Rattle.dc_read_unit.proofs.clauses.are_function_clauses.Goals as goal

each : IsAll is_function_clause are_function_clauses
each = record { none = refl; some = λ c m. refl }

pub loop-clause-preserved : goal.loop-clause-preserved
loop-clause-preserved c =
    all_stays is_function_clause are_function_clauses each c.args.clauses.now c.loop-clause.clause-index c.clause-item.result c.is_function_clause.result _ c.loop-clause-test.true c.clause-item.is c.is_function_clause.ensures c.if-not-is_function_clause.false c.loop-clause.invariant

pub returns-then-not-is_function_clause : goal.returns-then-not-is_function_clause
returns-then-not-is_function_clause c =
    all_fails is_function_clause are_function_clauses each c.args.clauses.now c.loop-clause.clause-index c.clause-item.result c.is_function_clause.result _ c.loop-clause-test.true c.clause-item.is c.is_function_clause.ensures c.if-not-is_function_clause.true c.loop-clause.invariant

pub returns : goal.returns
returns c = all_ends is_function_clause are_function_clauses each c.args.clauses.now c.loop-clause.clause-index _ c.loop-clause-test.false c.loop-clause.invariant
