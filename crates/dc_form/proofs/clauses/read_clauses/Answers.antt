use Rattle.dc_form.proofs.Turns.{clauses_stuck, clauses_turn}
use Rattle.dc_form.proofs.clauses.read_clauses.Goals as goal

pub loop-alloc-preserved : goal.loop-alloc-preserved
loop-alloc-preserved c =
    let d = c.in_default.ensures in
    (clauses_turn _ _ _ _ _ _ c.take.new.self _ _ _ c.loop-alloc.invariant.0 c.take.ensures.is c.loop-alloc-test.true c.take.ensures.rest d.found d.shorter, λ all. d.whole (c.loop-alloc.invariant.1 all))

pub returns-in-Err-clause-none : goal.returns-in-Err-clause-none
returns-in-Err-clause-none c = λ e. clauses_stuck _ _ _ _ _ _ _ _ c.loop-alloc.invariant.0 c.take.ensures.is c.loop-alloc-test.true c.take.ensures.rest (c.in-Err.ensures.none e)
