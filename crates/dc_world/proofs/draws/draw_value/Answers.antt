use Rattle.std.proofs.Common.{pos, ◌^◌, refl}
use Rattle.dc_num.specs.Kinds.{bits_of}
use Rattle.dc_num.specs.Conversions.{converted}
use Rattle.dc_core.specs.Choices.{draw, draw_value, give}
use Rattle.dc_world.proofs.Drawing.{resumed_none, resumed_cut, drawing_cut}
use Rattle.dc_world.proofs.draws.draw_value.Goals as goal

pub returns-in_err-draw-clause-drawn : goal.returns-in_err-draw-clause-drawn
returns-in_err-draw-clause-drawn g c =
    drawing_cut (λ z. z) (draw_value c.args.kind) c.from_residual.result _ _ _ _ c.from_residual.ensures.0
    (resumed_cut (draw_value c.args.kind) (draw_value c.args.kind) (draw (2 ^ bits_of c.args.kind)) (λ number. give (converted c.args.kind (pos number))) _ _ _ _ _ _
    (resumed_none (draw_value c.args.kind) _ _) (λ choices. refl) (rw c.values.ensures at c.in_err-draw.ensures.drawn))
