use Rattle.std.proofs.Common.{◌≡◌, [], refl, ap, sym, ◌∙◌, rules}
use Rattle.dc_core.specs.View.{term_view}
use Rattle.dc_machine.specs.View.{now_view}
use Rattle.dc_goto.specs.Acts.{required}
use Rattle.dc_goto.specs.Values.{is_true}
use Rattle.dc_machine.proofs.Acts.{ends_undefined}
use Rattle.dc_machine.proofs.Asking.{given-is, given-some}
use Rattle.dc_machine.proofs.Going.{then_assume}
use Rattle.dc_machine.proofs.now.Now.assume.Goals as goal

pub returns-in_default : goal.returns-in_default
returns-in_default c = λ p h.
    ends_undefined c.args.name.now _ _ (now_view c.asked.new.self) _ _ c.undefined.result h
    (given-is (term_view c.args.test.now) _ (now_view c.args.self.now) (now_view c.asked.new.self) c.args.name.now [] then_assume c.in_ok-z.ensures) c.in_default.is refl c.undefined.ensures

pub returns-then-is_true : goal.returns-then-is_true
returns-then-is_true c = λ p h.
    let held : c.is_true.result ≡ is_true c.in-Some.z = search rules in
    record {
      notes = [];
      goes = λ rest.
          given-some (term_view c.args.test.now) _ c.in-Some.z (now_view c.args.self.now) (now_view c.asked.new.self) c.args.name.now rest then_assume c.in_ok-z.ensures c.in-Some.is
          ∙ ap (λ held. required held (now_view c.asked.new.self rest)) (sym held ∙ c.if-is_true.true);
      heard = refl;
    }

pub returns-else-is_true : goal.returns-else-is_true
returns-else-is_true c = λ p h.
    let held : c.is_true.result ≡ is_true c.in-Some.z = search rules in
    record {
      notes = [];
      world = (now_view c.asked.new.self []).world;
      ends =
          given-some (term_view c.args.test.now) _ c.in-Some.z (now_view c.args.self.now) (now_view c.asked.new.self) c.args.name.now [] then_assume c.in_ok-z.ensures c.in-Some.is
          ∙ ap (λ held. required held (now_view c.asked.new.self [])) (sym held ∙ c.if-is_true.false);
      none_left = refl;
      not_dry = refl;
      heard = refl;
    }
