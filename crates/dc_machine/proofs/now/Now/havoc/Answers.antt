use Rattle.std.proofs.Common.{[], refl}
use Rattle.dc_goto.specs.Acts.{Next, havocked, with_memory}
use Rattle.dc_machine.specs.Step.{acting}
use Rattle.dc_machine.specs.View.{now_view}
use Rattle.dc_machine.proofs.Draws.{drawn_cut, drawn_ends}
use Rattle.dc_machine.proofs.Listed.{named_ranges}
use Rattle.dc_machine.proofs.Parts.{step_cut}
use Rattle.dc_machine.proofs.now.Now.havoc.Goals as goal

pub returns-in_err-drawn : goal.returns-in_err-drawn
returns-in_err-drawn g c = λ p name.
    step_cut acting _ _ c.from_residual.result _ _ _ _ c.from_residual.ensures.0
    (drawn_cut (havocked (named_ranges c.args.self.now.sets.sets) c.args.self.now.memory) (now_view c.args.self.now) (λ memory t. Next [] (with_memory memory t)) _ _ _ _ (λ memory t notes. refl) c.in_err-drawn.ensures)

pub returns-in_default : goal.returns-in_default
returns-in_default g c = λ p name.
    drawn_ends (havocked (named_ranges c.args.self.now.sets.sets) c.args.self.now.memory) (now_view c.args.self.now) (λ memory t. Next [] (with_memory memory t)) _ _ _ _ (rw c.in_default.is at c.in_ok-drawn.ensures)
