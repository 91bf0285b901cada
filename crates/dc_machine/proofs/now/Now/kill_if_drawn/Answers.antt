use Rattle.std.proofs.Common.{[], ◌∷◌, refl, ap, sym, ◌∙◌, None}
use Rattle.std.specs.Prelude.{Ok}
use Rattle.std.specs.declared.alloc.AllocError.{AllocError}
use Rattle.dc_core.specs.Choices.{draw}
use Rattle.dc_core.specs.Event.{Kill}
use Rattle.dc_core.specs.Run.{Did}
use Rattle.dc_goto.specs.Acts.{Next, killed_if}
use Rattle.dc_world.proofs.Drawing.{IsTaken-none}
use Rattle.dc_machine.specs.Step.{acting}
use Rattle.dc_machine.specs.View.{now_view}
use Rattle.dc_machine.proofs.Parts.{step_cut, nothing_done}
use Rattle.dc_machine.proofs.Draws.{drawn_cut, drawn_ends, drawn_step, passing, passing-straight}
use Rattle.dc_machine.proofs.now.Now.kill_if_drawn.Goals as goal

pub returns-in_err-number-clause-step : goal.returns-in_err-number-clause-step
returns-in_err-number-clause-step g c =
    step_cut acting _ _ c.from_residual.result _ _ _ _ c.from_residual.ensures.0 (drawn_cut (draw 2) (now_view c.args.self.now) (passing c.args.object) _ _ _ _ (passing-straight c.args.object) c.in_err-number.ensures.drawn)

pub returns-in_default-clause-step : goal.returns-in_default-clause-step
returns-in_default-clause-step g c = drawn_ends (draw 2) (now_view c.args.self.now) (passing c.args.object) _ _ _ _ (rw c.in_default.is at c.in_ok-number.ensures.drawn)

pub returns-in_err-kill_freed-clause-step : goal.returns-in_err-kill_freed-clause-step
returns-in_err-kill_freed-clause-step g c =
    drawn_step (draw 2) (now_view c.args.self.now) _ (passing c.args.object) c.in-Some.number c.from_residual-in_err-kill_freed.result _ _ _ _ _ _ (λ choices rest. refl) (passing-straight c.args.object) (rw c.in-Some.is at c.in_ok-number.ensures.drawn)
    (step_cut acting _ _ c.from_residual-in_err-kill_freed.result _ _ _ _ c.from_residual-in_err-kill_freed.ensures.0 (rw c.in_err-kill_freed.ensures.refused (nothing_done acting _ _ _)))

pub returns-then-dies-clause-step : goal.returns-then-dies-clause-step
returns-then-dies-clause-step g c =
    drawn_step {E = AllocError} (draw 2) (now_view c.args.self.now) (now_view c.kill_freed.new.self) (passing c.args.object) c.in-Some.number (Ok None) _ _ _ _ _ _ (λ choices rest. refl) (passing-straight c.args.object) (rw c.in-Some.is at c.in_ok-number.ensures.drawn)
    (record {
      numbers = [];
      notes = Did (Kill c.args.object) ∷ [];
      goes = λ rest.
          ap (λ b. killed_if b c.args.object (now_view c.args.self.now rest) (λ u. Next [] u)) (sym c.dies.ensures ∙ c.if-dies.true)
          ∙ ap (Next (Did (Kill c.args.object) ∷ [])) (sym (c.in_ok-kill_freed.ensures.freed rest));
      taken = IsTaken-none _;
      heard = c.in_ok-kill_freed.ensures.told;
    })

pub returns-then-dies-clause-sets : goal.returns-then-dies-clause-sets
returns-then-dies-clause-sets g c = ap (λ s. s.sets.sets) (c.in_ok-kill_freed.ensures.freed [])
