use Rattle.std.proofs.Common.{[], refl}
use Rattle.dc_machine.specs.Step.{acting}
use Rattle.dc_machine.specs.View.{now_view}
use Rattle.dc_goto.specs.Acts.{Next, with_memory}
use Rattle.dc_core.specs.Entry.{with_outside}
use Rattle.dc_machine.proofs.Parts.{step_cut}
use Rattle.dc_machine.proofs.Draws.{drawn_ends, drawn_cut}
use Rattle.dc_machine.proofs.now.Now.draw_outside.Goals as goal

pub returns-in_err-with_outside : goal.returns-in_err-with_outside
returns-in_err-with_outside g c = λ p name.
    step_cut acting _ _ c.from_residual.result _ _ _ _ c.from_residual.ensures.0
    (drawn_cut (with_outside c.args.self.now.memory) (now_view c.args.self.now) (λ memory t. Next [] (with_memory memory t)) _ _ _ _ (λ memory t notes. refl) c.in_err-with_outside.ensures)

pub returns-in_default : goal.returns-in_default
returns-in_default g c = λ p name.
    drawn_ends (with_outside c.args.self.now.memory) (now_view c.args.self.now) (λ memory t. Next [] (with_memory memory t)) _ _ _ _ (rw c.in_default.is at c.in_ok-with_outside.ensures)
