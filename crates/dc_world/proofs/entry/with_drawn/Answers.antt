use Rattle.std.proofs.Common.{◌≡◌, suc, ◌-◌, length, arith, refl, ap, sym, List, ℕ}
use Rattle.dc_core.specs.Choices.{draw, ◌>>=◌}
use Rattle.dc_memory.specs.Objects.{object_limit}
use Rattle.dc_world.specs.Sorts.{with_sorts}
use Rattle.dc_world.specs.Drawing.{with_objects}
use Rattle.dc_world.proofs.Drawing.{resumed_none, resumed_more, resumed_cut, resumed_last, drawing_cut}
use Rattle.dc_world.proofs.entry.with_drawn.Goals as goal

pub returns-in_err-count : goal.returns-in_err-count
returns-in_err-count g c =
    let most : c.saturating_sub-most.result ≡ (suc object_limit - length c.args.memory.now) = omega (arith, c.count.ensures.value) in
    drawing_cut (λ u. c.args.memory.now) (with_sorts c.args.sorts c.args.memory.now) c.from_residual.result _ _ _ _ c.from_residual.ensures.0
    (resumed_cut (with_sorts c.args.sorts c.args.memory.now) (with_sorts c.args.sorts c.args.memory.now) (draw (suc object_limit - length c.args.memory.now)) (λ count. with_objects c.args.sorts c.args.memory.now count) _ _ _ _ _ _ (resumed_none (with_sorts c.args.sorts c.args.memory.now) _ _) (λ choices. refl) (rw most at c.in_err-count.ensures.drawn))

pub returns : goal.returns
returns g c =
    let most : c.saturating_sub-most.result ≡ (suc object_limit - length c.args.memory.now) = omega (arith, c.count.ensures.value) in
    let turned : (choices : List ℕ) → with_sorts c.args.sorts c.args.memory.now choices ≡ (draw c.saturating_sub-most.result >>= (λ count. with_objects c.args.sorts c.args.memory.now count)) choices =
    λ choices. ap (λ k. (draw k >>= (λ count. with_objects c.args.sorts c.args.memory.now count)) choices) (sym most) in
    resumed_last (λ u. c.drawn_objects.new.memory) (with_sorts c.args.sorts c.args.memory.now) (with_objects c.args.sorts c.args.memory.now c.in-Some.count) c.drawn_objects.result _ _ _ _ _ _
    (resumed_more (with_sorts c.args.sorts c.args.memory.now) (with_sorts c.args.sorts c.args.memory.now) (draw c.saturating_sub-most.result) (λ count. with_objects c.args.sorts c.args.memory.now count) c.in-Some.count _ _ _ _ _ _ (resumed_none (with_sorts c.args.sorts c.args.memory.now) _ _) turned (rw c.in-Some.is at c.in_ok-count.ensures.drawn))
    c.drawn_objects.ensures
