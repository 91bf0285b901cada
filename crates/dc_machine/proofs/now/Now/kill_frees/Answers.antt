use Rattle.std.proofs.Common.{◌+◌, drop, refl, sym, ◌∙◌, arith}
use Rattle.dc_world.specs.Report.{end_view}
use Rattle.dc_writeset.specs.Sets.{innermost, frees_of}
use Rattle.dc_machine.specs.Step.{acting}
use Rattle.dc_machine.specs.View.{now_view}
use Rattle.dc_machine.proofs.Parts.{step_cut}
use Rattle.dc_machine.proofs.Draws.{passed-none, passed-one, passed-ended, passed-cut, passed-all}
use Rattle.dc_machine.proofs.Listed.{drop-none, first-free, named_frees, no-more, none-free}
use Rattle.dc_machine.proofs.now.Now.kill_frees.Goals as goal

pub loop-at-init : goal.loop-at-init
loop-at-init g c = record {
  passed = passed-none (named_frees c.args.self.now.sets.sets) (drop 0 (named_frees c.args.self.now.sets.sets)) (now_view c.args.self.now) _ _ (sym (drop-none (named_frees c.args.self.now.sets.sets)));
  sets = refl;
}

pub returns-in_default : goal.returns-in_default
returns-in_default g c = absurd (none-free c.loop-at.self.sets.sets c.args.self.now.sets.sets c.loop-at.at c.free_at.result c.loop-at.invariant.sets c.in_default.is c.free_at.ensures (omega (arith, c.loop-at-test.true, c.free_count-at-end.ensures)))

pub returns-in_err-end : goal.returns-in_err-end
returns-in_err-end g c = λ p name.
    step_cut acting _ _ c.from_residual.result _ _ _ _ c.from_residual.ensures.0
    (passed-cut (named_frees c.args.self.now.sets.sets) (drop c.loop-at.at (named_frees c.args.self.now.sets.sets)) (drop (c.loop-at.at + 1) (named_frees c.args.self.now.sets.sets)) c.in-Some.object (now_view c.args.self.now) (now_view c.loop-at.self) _ _ _ _ _ _ c.loop-at.invariant.passed
    (first-free c.loop-at.self.sets.sets c.args.self.now.sets.sets c.loop-at.at c.in-Some.object c.free_at.result c.loop-at.invariant.sets c.in-Some.is c.free_at.ensures) c.in_err-end.ensures.step)

pub returns-in-Some-end : goal.returns-in-Some-end
returns-in-Some-end g c = λ p name.
    passed-ended (named_frees c.args.self.now.sets.sets) (drop c.loop-at.at (named_frees c.args.self.now.sets.sets)) (drop (c.loop-at.at + 1) (named_frees c.args.self.now.sets.sets)) c.in-Some.object (now_view c.args.self.now) (now_view c.loop-at.self) (end_view c.in-Some-end.end) _ _ _ _ _ _ c.loop-at.invariant.passed
    (first-free c.loop-at.self.sets.sets c.args.self.now.sets.sets c.loop-at.at c.in-Some.object c.free_at.result c.loop-at.invariant.sets c.in-Some.is c.free_at.ensures) (rw c.in-Some-end.is at c.in_ok-end.ensures.step)

pub loop-at-preserved : goal.loop-at-preserved
loop-at-preserved g c = record {
  passed =
      passed-one (named_frees c.args.self.now.sets.sets) (drop c.loop-at.at (named_frees c.args.self.now.sets.sets)) (drop (c.loop-at.at + 1) (named_frees c.args.self.now.sets.sets)) c.in-Some.object (now_view c.args.self.now) (now_view c.loop-at.self) (now_view c.kill_if_drawn.new.self) _ _ _ _ _ _ c.loop-at.invariant.passed
      (first-free c.loop-at.self.sets.sets c.args.self.now.sets.sets c.loop-at.at c.in-Some.object c.free_at.result c.loop-at.invariant.sets c.in-Some.is c.free_at.ensures) (rw c.in_default-end.is at c.in_ok-end.ensures.step);
  sets = c.in_ok-end.ensures.sets ∙ c.loop-at.invariant.sets;
}

pub returns : goal.returns
returns g c = λ p name.
    passed-all (named_frees c.args.self.now.sets.sets) (drop c.loop-at.at (named_frees c.args.self.now.sets.sets)) (now_view c.args.self.now) (now_view c.loop-at.self) _ _ _ _ c.loop-at.invariant.passed
    (no-more (λ f. f.object) (frees_of (innermost c.args.self.now.sets.sets)) c.loop-at.at (omega (arith, c.loop-at-test.false, c.free_count-at-end.ensures)))
