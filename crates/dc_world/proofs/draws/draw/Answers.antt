use Rattle.std.proofs.Common.{◌∙◌, ap, ◌++◌, ◌∷◌, []}
use Rattle.dc_core.specs.Choices.{draw}
use Rattle.dc_world.proofs.Drawing.{broke_at_once, drawing_cut, IsTaken-dry, IsTaken-one, dry-one, drawn-one}
use Rattle.dc_world.proofs.draws.draw.Goals as goal

pub returns-in_err-try_reserve-clause-drawn : goal.returns-in_err-try_reserve-clause-drawn
returns-in_err-try_reserve-clause-drawn g c =
    drawing_cut (λ n. n) (draw c.args.k) c.from_residual.result _ _ _ _ c.from_residual.ensures.0 (rw c.try_reserve.ensures.items (broke_at_once _ _ _))

pub returns-in_default-clause-drawn : goal.returns-in_default-clause-drawn
returns-in_default-clause-drawn g c =
    dry-one c.args.k _ _ _ (IsTaken-dry _ _ _ _ _ _ _ _ c.in_default.ensures.takes c.in_default.ensures.cause c.try_reserve.ensures.items)

pub returns-clause-drawn : goal.returns-clause-drawn
returns-clause-drawn g c =
    drawn-one c.args.k c.in-Some.number c.remainder.result _ _ _ _ c.remainder.ensures
    (IsTaken-one _ _ _ _ _ _ _ _ _ c.in-Some.ensures.takes c.in-Some.ensures.cause (c.push_reserved.ensures.items ∙ ap (λ l. l ++ c.in-Some.number ∷ []) c.try_reserve.ensures.items))
    c.tell.ensures
