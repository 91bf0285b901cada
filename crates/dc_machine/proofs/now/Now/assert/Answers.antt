use Rattle.std.proofs.Common.{◌≡◌, [], refl, ap, sym, ◌∙◌, rules}
use Rattle.dc_core.specs.Run.{checked}
use Rattle.dc_core.specs.View.{term_view}
use Rattle.dc_machine.specs.View.{now_view}
use Rattle.dc_goto.specs.Acts.{Next}
use Rattle.dc_goto.specs.Values.{is_true}
use Rattle.dc_machine.proofs.Acts.{ends_undefined}
use Rattle.dc_machine.proofs.Asking.{given-is, given-some}
use Rattle.dc_machine.proofs.Going.{then_assert}
use Rattle.dc_machine.proofs.now.Now.assert.Goals as goal

pub returns-in-None : goal.returns-in-None
returns-in-None g c = λ p.
    ends_undefined c.args.name.now _ _ (now_view c.asked.new.self) _ _ c.undefined.result _
    (given-is (term_view c.args.test.now) _ (now_view c.args.self.now) (now_view c.asked.new.self) c.args.name.now [] (then_assert c.args.check.now) c.in_ok-asked.ensures) c.in-None.is refl c.undefined.ensures

pub returns-in_ok-check-in-Some : goal.returns-in_ok-check-in-Some
returns-in_ok-check-in-Some g c = λ p.
    let held : c.is_true.result ≡ is_true c.in-Some.z = search rules in
    record {
      notes = checked c.args.check.now c.is_true.result;
      goes = λ rest.
          given-some (term_view c.args.test.now) _ c.in-Some.z (now_view c.args.self.now) (now_view c.asked.new.self) c.args.name.now rest (then_assert c.args.check.now) c.in_ok-asked.ensures c.in-Some.is
          ∙ ap (λ held. Next (checked c.args.check.now held) (now_view c.asked.new.self rest)) (sym held);
      heard = c.in_ok-check-in-Some.ensures.ok;
    }
