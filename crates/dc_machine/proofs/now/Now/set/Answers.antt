use Rattle.std.proofs.Common.{[], refl, ap, sym, ◌∙◌}
use Rattle.dc_core.specs.View.{term_view}
use Rattle.dc_machine.specs.View.{now_view}
use Rattle.dc_goto.specs.Acts.{Next, with_register}
use Rattle.dc_machine.proofs.Acts.{ends_undefined}
use Rattle.dc_machine.proofs.Asking.{given-is, given-some}
use Rattle.dc_machine.proofs.Going.{then_set}
use Rattle.dc_machine.proofs.now.Now.set.Goals as goal

pub returns-in-None : goal.returns-in-None
returns-in-None c = λ p h.
    ends_undefined c.args.name.now _ _ (now_view c.asked.new.self) _ _ c.undefined.result h
    (given-is (term_view c.args.value.now) _ (now_view c.args.self.now) (now_view c.asked.new.self) c.args.name.now [] (then_set c.args.register) c.in_ok-held.ensures) c.in-None.is refl c.undefined.ensures

pub returns-in_ok-put-in-Some : goal.returns-in_ok-put-in-Some
returns-in_ok-put-in-Some c = λ p h. record {
  notes = [];
  goes = λ rest.
      given-some (term_view c.args.value.now) _ _ (now_view c.args.self.now) (now_view c.asked.new.self) c.args.name.now rest (then_set c.args.register) c.in_ok-held.ensures c.in-Some.is
      ∙ ap (Next []) (sym (c.in_ok-put-in-Some.ensures rest ∙ ap (λ held. with_register c.args.register held (now_view c.asked.new.self rest)) c.in-Some.is));
  heard = refl;
}
