use Rattle.dc_form.proofs.Turns.{error_as, assignments_stuck, assignments_turn}
use Rattle.dc_form.proofs.body.read_assignments.Goals as goal

pub returns-in-Err-clause-none : goal.returns-in-Err-clause-none
returns-in-Err-clause-none c =
    λ e. assignments_stuck _ _ _ _ _ _ _ c.loop-alloc.invariant.0 c.at_end.ensures c.loop-alloc-test.true (c.in-Err.ensures.none (error_as c.in-Err.error _ e))

pub loop-alloc-preserved : goal.loop-alloc-preserved
loop-alloc-preserved c =
    let d = c.in-Ok.ensures in (
      assignments_turn _ _ _ _ _ _ _ _ _ _ _ c.loop-alloc.invariant.0 c.at_end.ensures c.loop-alloc-test.true d.found d.shorter c.in_ok-push.ensures.found c.in_ok-site.ensures,
      λ all. c.in_ok-push.ensures.whole d.whole (c.loop-alloc.invariant.1 all),
    )
