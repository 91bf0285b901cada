use Rattle.std.proofs.Common.{length, map, ◌∙◌, ap, arith}
use Rattle.dc_core.specs.View.{target_view}
use Rattle.dc_form.proofs.Turns.{targets_turn, targets_stuck, error_as}
use Rattle.dc_form.proofs.clauses.read_targets.Goals as goal

pub returns-in-Err-clause-none : goal.returns-in-Err-clause-none
returns-in-Err-clause-none c =
    λ e. c.loop-word.invariant.0 ∙ targets_stuck c.args.names.now c.args.statics (map target_view c.loop-word.targets) c.in-Some.word.now c.loop-word.tokens _ c.in-Some.ensures (c.in-Err.ensures.none (error_as c.in-Err.error _ e))

pub loop-word-preserved : goal.loop-word-preserved
loop-word-preserved c =
    let le = c.loop-word.invariant.1 in
    let one = ap length c.in-Some.ensures in
    let shorter = c.take.ensures.shorter in
    let d = c.in_default-add_target.ensures in (
      c.loop-word.invariant.0 ∙ targets_turn c.args.names.now c.args.statics (map target_view c.loop-word.targets) (map target_view c.add_target.new.targets) d.found.0 c.in-Some.word.now c.loop-word.tokens c.next.new.self c.take.new.self c.take.result c.in-Some.ensures d.found.1 d.found.2 c.take.ensures.is c.if-not-take.false c.take.ensures.rest,
      omega arith,
      λ all. d.whole (c.loop-word.invariant.2 all),
    )
