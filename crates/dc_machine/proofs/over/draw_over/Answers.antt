use Rattle.std.proofs.Common.{◌+◌, ◌-◌, ◌∷◌, [], arith}
use Rattle.dc_core.specs.Choices.{draw}
use Rattle.dc_memory.specs.Objects.{changed}
use Rattle.dc_memory.specs.Places.{with_bytes}
use Rattle.dc_world.proofs.Drawing.{resumed_none, resumed_same, resumed_more, resumed_dry, resumed_cut, resumed_done, drawing_cut}
use Rattle.dc_machine.specs.Over.{overwritten}
use Rattle.dc_machine.proofs.Overwriting.{over-start, over-more, over-end}
use Rattle.dc_machine.proofs.over.draw_over.Goals as goal

pub loop-at-init : goal.loop-at-init
loop-at-init g c =
    resumed_same (overwritten c.args.number c.args.from c.args.len c.args.memory.now) (overwritten c.args.number c.args.from c.args.len c.args.memory.now) (overwritten c.args.number (c.args.from + 0) (c.args.len - 0) c.args.memory.now) _ _ _ _
    (resumed_none (overwritten c.args.number c.args.from c.args.len c.args.memory.now) _ _)
    (over-start c.args.number c.args.from c.args.len (c.args.from + 0) (c.args.len - 0) c.args.memory.now (omega arith) (omega arith))

pub returns-in_err-byte : goal.returns-in_err-byte
returns-in_err-byte g c =
    drawing_cut (λ u. c.loop-at.memory) (overwritten c.args.number c.args.from c.args.len c.args.memory.now) c.from_residual.result _ _ _ _ c.from_residual.ensures.0
    (resumed_cut (overwritten c.args.number c.args.from c.args.len c.args.memory.now) (overwritten c.args.number (c.args.from + c.loop-at.at) (c.args.len - c.loop-at.at) c.loop-at.memory) (draw 256) (λ byte. overwritten c.args.number (c.args.from + (c.loop-at.at + 1)) (c.args.len - (c.loop-at.at + 1)) (changed c.args.number (with_bytes (c.args.from + c.loop-at.at) (byte ∷ [])) c.loop-at.memory)) _ _ _ _ _ _ c.loop-at.invariant
    (over-more c.args.number (c.args.from + c.loop-at.at) (c.args.from + (c.loop-at.at + 1)) (c.args.len - c.loop-at.at) (c.args.len - (c.loop-at.at + 1)) c.loop-at.memory (omega arith) (omega arith)) c.in_err-byte.ensures.drawn)

pub returns-in_default : goal.returns-in_default
returns-in_default g c =
    resumed_dry (overwritten c.args.number c.args.from c.args.len c.args.memory.now) (overwritten c.args.number (c.args.from + c.loop-at.at) (c.args.len - c.loop-at.at) c.loop-at.memory) (draw 256) (λ byte. overwritten c.args.number (c.args.from + (c.loop-at.at + 1)) (c.args.len - (c.loop-at.at + 1)) (changed c.args.number (with_bytes (c.args.from + c.loop-at.at) (byte ∷ [])) c.loop-at.memory)) _ _ _ _ _ _ c.loop-at.invariant
    (over-more c.args.number (c.args.from + c.loop-at.at) (c.args.from + (c.loop-at.at + 1)) (c.args.len - c.loop-at.at) (c.args.len - (c.loop-at.at + 1)) c.loop-at.memory (omega arith) (omega arith)) (rw c.in_default.is at c.in_ok-byte.ensures.drawn)

pub loop-at-preserved : goal.loop-at-preserved
loop-at-preserved g c =
    rw c.put_byte.ensures
    (resumed_more (overwritten c.args.number c.args.from c.args.len c.args.memory.now) (overwritten c.args.number (c.args.from + c.loop-at.at) (c.args.len - c.loop-at.at) c.loop-at.memory) (draw 256) (λ byte. overwritten c.args.number (c.args.from + (c.loop-at.at + 1)) (c.args.len - (c.loop-at.at + 1)) (changed c.args.number (with_bytes (c.args.from + c.loop-at.at) (byte ∷ [])) c.loop-at.memory)) c.in-Some.byte _ _ _ _ _ _ c.loop-at.invariant
    (over-more c.args.number (c.args.from + c.loop-at.at) (c.args.from + (c.loop-at.at + 1)) (c.args.len - c.loop-at.at) (c.args.len - (c.loop-at.at + 1)) c.loop-at.memory (omega arith) (omega arith)) (rw c.in-Some.is at c.in_ok-byte.ensures.drawn))

pub returns : goal.returns
returns g c =
    resumed_done (overwritten c.args.number c.args.from c.args.len c.args.memory.now) (overwritten c.args.number (c.args.from + c.loop-at.at) (c.args.len - c.loop-at.at) c.loop-at.memory) c.loop-at.memory _ _ _ _ c.loop-at.invariant
    (over-end c.args.number (c.args.from + c.loop-at.at) (c.args.len - c.loop-at.at) c.loop-at.memory (omega arith))
