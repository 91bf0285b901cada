use Rattle.std.proofs.Common.{◌+◌, suc, drop, get_or, arith}
use Rattle.dc_world.proofs.Drawing.{resumed_none, resumed_same, resumed_more, resumed_dry, resumed_cut, resumed_done, drawing_cut}
use Rattle.dc_machine.specs.Over.{overwritten, statics_overwritten}
use Rattle.dc_machine.proofs.Overwriting.{statics-start, statics-over, statics-end}
use Rattle.dc_machine.proofs.over.draw_all_over.Goals as goal

pub loop-size-init : goal.loop-size-init
loop-size-init g c = record {
  number = omega arith;
  drawn =
      resumed_same (statics_overwritten (suc c.args.count) c.args.sizes.now c.args.memory.now) (statics_overwritten (suc c.args.count) c.args.sizes.now c.args.memory.now) (statics_overwritten (c.args.count + 1) c.args.sizes.now c.args.memory.now) _ _ _ _
      (resumed_none (statics_overwritten (suc c.args.count) c.args.sizes.now c.args.memory.now) _ _)
      (statics-start (suc c.args.count) (c.args.count + 1) c.args.sizes.now c.args.memory.now (omega arith));
}

pub returns-in_err-drawn : goal.returns-in_err-drawn
returns-in_err-drawn g c =
    drawing_cut (λ u. c.draw_over.new.memory) (statics_overwritten (suc c.args.count) c.args.sizes.now c.args.memory.now) c.from_residual.result _ _ _ _ c.from_residual.ensures.0
    (resumed_cut (statics_overwritten (suc c.args.count) c.args.sizes.now c.args.memory.now) (statics_overwritten (c.loop-size.number + 1) (drop c.loop-size.size-index c.args.sizes.now) c.loop-size.memory) (overwritten (c.loop-size.number + 1) 0 (get_or c.args.sizes.now c.loop-size.size-index 0) c.loop-size.memory) (statics_overwritten ((c.loop-size.number + 1) + 1) (drop (c.loop-size.size-index + 1) c.args.sizes.now)) _ _ _ _ _ _ c.loop-size.invariant.drawn
    (statics-over (c.loop-size.number + 1) ((c.loop-size.number + 1) + 1) c.loop-size.size-index c.args.sizes.now c.loop-size.memory (omega arith) (omega arith)) c.in_err-drawn.ensures)

pub returns-in_default : goal.returns-in_default
returns-in_default g c =
    resumed_dry (statics_overwritten (suc c.args.count) c.args.sizes.now c.args.memory.now) (statics_overwritten (c.loop-size.number + 1) (drop c.loop-size.size-index c.args.sizes.now) c.loop-size.memory) (overwritten (c.loop-size.number + 1) 0 (get_or c.args.sizes.now c.loop-size.size-index 0) c.loop-size.memory) (statics_overwritten ((c.loop-size.number + 1) + 1) (drop (c.loop-size.size-index + 1) c.args.sizes.now)) _ _ _ _ _ _ c.loop-size.invariant.drawn
    (statics-over (c.loop-size.number + 1) ((c.loop-size.number + 1) + 1) c.loop-size.size-index c.args.sizes.now c.loop-size.memory (omega arith) (omega arith)) (rw c.in_default.is at c.in_ok-drawn.ensures)

pub loop-size-preserved : goal.loop-size-preserved
loop-size-preserved g c = record {
  number = omega (arith, c.loop-size.invariant.number);
  drawn =
      resumed_more (statics_overwritten (suc c.args.count) c.args.sizes.now c.args.memory.now) (statics_overwritten (c.loop-size.number + 1) (drop c.loop-size.size-index c.args.sizes.now) c.loop-size.memory) (overwritten (c.loop-size.number + 1) 0 (get_or c.args.sizes.now c.loop-size.size-index 0) c.loop-size.memory) (statics_overwritten ((c.loop-size.number + 1) + 1) (drop (c.loop-size.size-index + 1) c.args.sizes.now)) c.draw_over.new.memory _ _ _ _ _ _ c.loop-size.invariant.drawn
      (statics-over (c.loop-size.number + 1) ((c.loop-size.number + 1) + 1) c.loop-size.size-index c.args.sizes.now c.loop-size.memory (omega arith) (omega arith)) (rw c.in-Some.is at c.in_ok-drawn.ensures);
}

pub returns : goal.returns
returns g c =
    resumed_done (statics_overwritten (suc c.args.count) c.args.sizes.now c.args.memory.now) (statics_overwritten (c.loop-size.number + 1) (drop c.loop-size.size-index c.args.sizes.now) c.loop-size.memory) c.loop-size.memory _ _ _ _ c.loop-size.invariant.drawn
    (statics-end (c.loop-size.number + 1) c.loop-size.size-index c.args.sizes.now c.loop-size.memory (omega arith))
