use Rattle.std.proofs.Common.{[], length, refl, suc}
use Rattle.dc_goto.specs.Acts.{Next, with_memory}
use Rattle.dc_machine.specs.Over.{statics_overwritten}
use Rattle.dc_machine.specs.Step.{acting}
use Rattle.dc_machine.specs.View.{now_view}
use Rattle.dc_machine.proofs.Draws.{drawn_cut, drawn_ends, drawn_goes}
use Rattle.dc_machine.proofs.Listed.{cut_same, ends_same, goes_same}
use Rattle.dc_machine.proofs.Overwriting.{statics_run, statics-acts}
use Rattle.dc_machine.proofs.Parts.{step_cut}
use Rattle.dc_machine.proofs.now.Now.draw_statics.Goals as goal

pub returns-in_err-drawn : goal.returns-in_err-drawn
returns-in_err-drawn g c = λ p name functions sizes.
    step_cut acting _ _ c.from_residual.result _ _ _ _ c.from_residual.ensures.0
    (cut_same (statics_run (length c.args.functions.now) c.args.sizes.now c.args.self.now) _ _ _ _ _ (statics-acts p name c.args.sizes.now (length c.args.functions.now) c.args.self.now functions sizes)
    (drawn_cut (statics_overwritten (suc (length c.args.functions.now)) c.args.sizes.now c.args.self.now.memory) (now_view c.args.self.now) (λ memory t. Next [] (with_memory memory t)) _ _ _ _ (λ memory t notes. refl) c.in_err-drawn.ensures))

pub returns-in_default : goal.returns-in_default
returns-in_default g c = λ p name functions sizes.
    ends_same (statics_run (length c.args.functions.now) c.args.sizes.now c.args.self.now) _ _ _ _ _ _ (statics-acts p name c.args.sizes.now (length c.args.functions.now) c.args.self.now functions sizes)
    (drawn_ends (statics_overwritten (suc (length c.args.functions.now)) c.args.sizes.now c.args.self.now.memory) (now_view c.args.self.now) (λ memory t. Next [] (with_memory memory t)) _ _ _ _ (rw c.in_default.is at c.in_ok-drawn.ensures))

pub returns : goal.returns
returns g c = λ p name functions sizes.
    goes_same (statics_run (length c.args.functions.now) c.args.sizes.now c.args.self.now) _ _ _ _ _ _ (statics-acts p name c.args.sizes.now (length c.args.functions.now) c.args.self.now functions sizes)
    (drawn_goes (statics_overwritten (suc (length c.args.functions.now)) c.args.sizes.now c.args.self.now.memory) (now_view c.args.self.now) _ (λ memory t. Next [] (with_memory memory t)) c.draw_all_over.new.memory _ _ _ _ (λ choices rest. refl) (λ rest. refl) (rw c.in-Some.is at c.in_ok-drawn.ensures))
