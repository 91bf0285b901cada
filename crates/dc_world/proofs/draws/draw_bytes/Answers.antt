use Rattle.std.proofs.Common.{◌+◌, ◌-◌, ◌++◌, ◌∷◌, [], arith}
use Rattle.dc_core.specs.Choices.{draw, draw_bytes}
use Rattle.dc_world.specs.Drawing.{behind}
use Rattle.dc_world.proofs.Drawing.{resumed_none, resumed_same, resumed_more, resumed_dry, resumed_cut, resumed_stop, drawing_cut, bytes-start, bytes-more}
use Rattle.dc_world.proofs.draws.draw_bytes.Goals as goal

pub loop-at-init : goal.loop-at-init
loop-at-init g c =
    rw c.new-bytes.ensures.items (resumed_same (draw_bytes c.args.count) (draw_bytes c.args.count) (behind [] (draw_bytes (c.args.count - 0))) _ _ _ _ (resumed_none (draw_bytes c.args.count) _ _) (bytes-start c.args.count (c.args.count - 0) (omega arith)))

pub returns-in_err-try_reserve : goal.returns-in_err-try_reserve
returns-in_err-try_reserve g c =
    drawing_cut (λ bytes. bytes.items) (draw_bytes c.args.count) c.from_residual.result _ _ _ _ c.from_residual.ensures.0 (resumed_stop (draw_bytes c.args.count) (behind c.loop-at.bytes.items (draw_bytes (c.args.count - c.loop-at._at))) _ _ _ _ c.loop-at.invariant)

pub returns-in_err-byte : goal.returns-in_err-byte
returns-in_err-byte g c =
    drawing_cut (λ bytes. bytes.items) (draw_bytes c.args.count) c.from_residual-in_err-byte.result _ _ _ _ c.from_residual-in_err-byte.ensures.0
    (resumed_cut (draw_bytes c.args.count) (behind c.loop-at.bytes.items (draw_bytes (c.args.count - c.loop-at._at))) (draw 256) (λ x. behind (c.loop-at.bytes.items ++ x ∷ []) (draw_bytes (c.args.count - (c.loop-at._at + 1)))) _ _ _ _ _ _ c.loop-at.invariant (bytes-more c.loop-at.bytes.items (c.args.count - c.loop-at._at) (c.args.count - (c.loop-at._at + 1)) (omega arith)) c.in_err-byte.ensures.drawn)

pub returns-in_default : goal.returns-in_default
returns-in_default g c =
    resumed_dry (draw_bytes c.args.count) (behind c.loop-at.bytes.items (draw_bytes (c.args.count - c.loop-at._at))) (draw 256) (λ x. behind (c.loop-at.bytes.items ++ x ∷ []) (draw_bytes (c.args.count - (c.loop-at._at + 1)))) _ _ _ _ _ _ c.loop-at.invariant (bytes-more c.loop-at.bytes.items (c.args.count - c.loop-at._at) (c.args.count - (c.loop-at._at + 1)) (omega arith)) (rw c.in_default.is at c.in_ok-byte.ensures.drawn)

pub loop-at-preserved : goal.loop-at-preserved
loop-at-preserved g c =
    rw (c.push_reserved.ensures.items, c.try_reserve.ensures.items)
    (resumed_more (draw_bytes c.args.count) (behind c.loop-at.bytes.items (draw_bytes (c.args.count - c.loop-at._at))) (draw 256) (λ x. behind (c.loop-at.bytes.items ++ x ∷ []) (draw_bytes (c.args.count - (c.loop-at._at + 1)))) c.in-Some.byte _ _ _ _ _ _ c.loop-at.invariant (bytes-more c.loop-at.bytes.items (c.args.count - c.loop-at._at) (c.args.count - (c.loop-at._at + 1)) (omega arith)) (rw c.in-Some.is at c.in_ok-byte.ensures.drawn))
