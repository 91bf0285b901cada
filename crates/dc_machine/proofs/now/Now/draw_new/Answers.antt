use Rattle.std.proofs.Common.{[], refl}
use Rattle.dc_machine.specs.Step.{acting}
use Rattle.dc_machine.specs.View.{now_view}
use Rattle.dc_goto.specs.Acts.{Next, with_memory}
use Rattle.dc_core.specs.Entry.{with_new}
use Rattle.dc_machine.proofs.Parts.{step_cut}
use Rattle.dc_machine.proofs.Draws.{drawn_ends, drawn_cut}
use Rattle.dc_machine.proofs.now.Now.draw_new.Goals as goal

pub returns-in_err-with_new : goal.returns-in_err-with_new
returns-in_err-with_new g c = λ p name.
    step_cut acting _ _ c.from_residual.result _ _ _ _ c.from_residual.ensures.0
    (drawn_cut (with_new c.args.self.now.memory) (now_view c.args.self.now) (λ memory t. Next [] (with_memory memory t)) _ _ _ _ (λ memory t notes. refl) c.in_err-with_new.ensures)

pub returns-in_default : goal.returns-in_default
returns-in_default g c = λ p name.
    drawn_ends (with_new c.args.self.now.memory) (now_view c.args.self.now) (λ memory t. Next [] (with_memory memory t)) _ _ _ _ (rw c.in_default.is at c.in_ok-with_new.ensures)
