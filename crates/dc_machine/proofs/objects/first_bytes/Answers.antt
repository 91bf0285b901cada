use Rattle.std.proofs.Common.{ap, sym, ◌∙◌, arith}
use Rattle.dc_core.specs.Choices.{give}
use Rattle.dc_goto.specs.Acts.{first_bytes}
use Rattle.dc_machine.proofs.Draws.{drew-at-once}
use Rattle.dc_machine.proofs.Listed.{zeros}
use Rattle.dc_world.proofs.Drawing.{broke_at_once, drawing_cut}
use Rattle.dc_machine.proofs.objects.first_bytes.Goals as goal

pub returns-in_err-resize-in-Zero : goal.returns-in_err-resize-in-Zero
returns-in_err-resize-in-Zero g c = drawing_cut (λ bytes. bytes.items) (first_bytes c.args.bytes c.args.size) c.from_residual.result _ _ _ _ c.from_residual.ensures.0 (broke_at_once (first_bytes c.args.bytes c.args.size) _ _)

pub returns-in_ok-resize-in-Zero : goal.returns-in_ok-resize-in-Zero
returns-in_ok-resize-in-Zero g c =
    drew-at-once (first_bytes c.args.bytes c.args.size) c.resize.new.self.items _ _
    (λ rest.
    ap (λ b. first_bytes b c.args.size rest) c.in-Zero.is
    ∙ ap (λ l. give l rest) (sym (zeros c.args.size _ c.new-zeros.result.items c.resize.new.self.items c.new-zeros.ensures.items (omega (arith, c.new-zeros.result.ok.0)) c.in_ok-resize-in-Zero.ensures.items)))
