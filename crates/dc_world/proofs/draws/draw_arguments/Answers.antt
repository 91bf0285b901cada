use Rattle.std.proofs.Common.{◌≡◌, ◌+◌, ◌-◌, ◌++◌, ◌∷◌, [], arith, to_z, of_z}
use Rattle.dc_num.specs.declared.kind.NumKind.TheVariants.{S32}
use Rattle.dc_core.specs.Choices.{draw_value}
use Rattle.dc_core.specs.Entry.{draw_arguments}
use Rattle.dc_world.specs.Drawing.{behind}
use Rattle.dc_world.proofs.Numbers.{value-read}
use mir.Syntax.{w128}
use Rattle.dc_world.proofs.Drawing.{resumed_none, resumed_same, resumed_more, resumed_dry, resumed_cut, resumed_stop, drawing_cut, arguments-start, arguments-more}
use Rattle.dc_world.proofs.draws.draw_arguments.Goals as goal

pub loop-at-init : goal.loop-at-init
loop-at-init g c =
    rw c.new-values.ensures.items (resumed_same (draw_arguments c.args.count) (draw_arguments c.args.count) (behind [] (draw_arguments (c.args.count - 0))) _ _ _ _ (resumed_none (draw_arguments c.args.count) _ _) (arguments-start c.args.count (c.args.count - 0) (omega arith)))

pub returns-in_err-try_reserve : goal.returns-in_err-try_reserve
returns-in_err-try_reserve g c =
    drawing_cut (λ values. values.items) (draw_arguments c.args.count) c.from_residual.result _ _ _ _ c.from_residual.ensures.0 (resumed_stop (draw_arguments c.args.count) (behind c.loop-at.values.items (draw_arguments (c.args.count - c.loop-at._at))) _ _ _ _ c.loop-at.invariant)

pub returns-in_err-value : goal.returns-in_err-value
returns-in_err-value g c =
    drawing_cut (λ values. values.items) (draw_arguments c.args.count) c.from_residual-in_err-value.result _ _ _ _ c.from_residual-in_err-value.ensures.0
    (resumed_cut (draw_arguments c.args.count) (behind c.loop-at.values.items (draw_arguments (c.args.count - c.loop-at._at))) (draw_value S32) (λ x. behind (c.loop-at.values.items ++ x ∷ []) (draw_arguments (c.args.count - (c.loop-at._at + 1)))) _ _ _ _ _ _ c.loop-at.invariant (arguments-more c.loop-at.values.items (c.args.count - c.loop-at._at) (c.args.count - (c.loop-at._at + 1)) (omega arith)) c.in_err-value.ensures.drawn)

pub returns-in_default : goal.returns-in_default
returns-in_default g c =
    resumed_dry (draw_arguments c.args.count) (behind c.loop-at.values.items (draw_arguments (c.args.count - c.loop-at._at))) (draw_value S32) (λ x. behind (c.loop-at.values.items ++ x ∷ []) (draw_arguments (c.args.count - (c.loop-at._at + 1)))) _ _ _ _ _ _ c.loop-at.invariant (arguments-more c.loop-at.values.items (c.args.count - c.loop-at._at) (c.args.count - (c.loop-at._at + 1)) (omega arith)) (rw c.in_default.is at c.in_ok-value.ensures.drawn)

pub loop-at-preserved : goal.loop-at-preserved
loop-at-preserved g c =
    let read : to_z w128 (of_z w128 c.in-Some.value) ≡ c.in-Some.value = value-read S32 c.in-Some.value (rw c.in-Some.is at c.in_ok-value.ensures.valued) in
    rw (c.push_reserved.ensures.items, c.try_reserve.ensures.items, read)
    (resumed_more (draw_arguments c.args.count) (behind c.loop-at.values.items (draw_arguments (c.args.count - c.loop-at._at))) (draw_value S32) (λ x. behind (c.loop-at.values.items ++ x ∷ []) (draw_arguments (c.args.count - (c.loop-at._at + 1)))) c.in-Some.value _ _ _ _ _ _ c.loop-at.invariant (arguments-more c.loop-at.values.items (c.args.count - c.loop-at._at) (c.args.count - (c.loop-at._at + 1)) (omega arith)) (rw c.in-Some.is at c.in_ok-value.ensures.drawn))
