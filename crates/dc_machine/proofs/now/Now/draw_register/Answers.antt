use Rattle.std.proofs.Common.{[], refl, sym, ap, ◌∙◌}
use Rattle.dc_machine.specs.Step.{acting}
use Rattle.dc_machine.specs.View.{now_view}
use Rattle.dc_goto.specs.Acts.{Next, with_register}
use Rattle.dc_core.specs.Choices.{draw_value}
use Rattle.dc_machine.proofs.Parts.{step_cut}
use Rattle.dc_machine.proofs.Draws.{drawn_goes, drawn_ends, drawn_cut}
use Rattle.dc_machine.proofs.Going.{then_set}
use Rattle.dc_machine.proofs.now.Now.draw_register.Goals as goal

pub returns-in_err-held : goal.returns-in_err-held
returns-in_err-held g c = λ p name.
    step_cut acting _ (now_view c.args.self.now) c.from_residual.result _ _ _ _ c.from_residual.ensures.0
    (drawn_cut (draw_value c.args.kind) (now_view c.args.self.now) (then_set c.args.register) _ _ _ _ (λ v t notes. refl) c.in_err-held.ensures.drawn)

pub returns-in-None : goal.returns-in-None
returns-in-None g c = λ p name.
    drawn_ends (draw_value c.args.kind) (now_view c.args.self.now) (then_set c.args.register) _ _ _ _ (rw c.in-None.is at c.in_ok-held.ensures.drawn)

pub returns-in_ok-put-in-Some : goal.returns-in_ok-put-in-Some
returns-in_ok-put-in-Some g c = λ p name.
    drawn_goes (draw_value c.args.kind) (now_view c.args.self.now) (now_view c.put.new.self) (then_set c.args.register) _ _ _ _ _ (λ choices rest. refl)
    (λ rest. ap (Next []) (sym (c.in_ok-put-in-Some.ensures rest ∙ ap (λ held. with_register c.args.register held (now_view c.args.self.now rest)) c.in-Some.is))) (rw c.in-Some.is at c.in_ok-held.ensures.drawn)
