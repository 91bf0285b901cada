use Rattle.std.proofs.Common.{◌≡◌, [], suc, ◌+◌, refl, ap, sym, ◌∙◌, arith, rules}
use Rattle.dc_core.specs.View.{term_view}
use Rattle.dc_goto.specs.Acts.{jumping}
use Rattle.dc_goto.specs.Machine.{Going, proceed}
use Rattle.dc_goto.specs.Values.{is_true}
use Rattle.dc_machine.specs.View.{now_view, machine_view}
use Rattle.dc_machine.proofs.Asking.{given-none, given-some}
use Rattle.dc_machine.proofs.Calls.{run_undefined}
use Rattle.dc_machine.proofs.Parts.{placed-at}
use Rattle.dc_machine.proofs.machine.Machine.branch.Goals as goal

pub returns-in-None : goal.returns-in-None
returns-in-None c = λ p h.
    run_undefined c.args.name.now _ _ (now_view c.asked.new.self []).world c.undefined.result h
    (ap (proceed p (machine_view p.bodies c.args.self.now [])) (given-none (term_view c.args.test.now) _ (now_view c.args.self.now.now) (now_view c.asked.new.self) c.args.name.now [] (λ v t. jumping c.args.place (is_true v) t) c.in_ok-asked.ensures c.in-None.is))
    refl c.undefined.ensures

pub returns-then-is_true : goal.returns-then-is_true
returns-then-is_true c = λ p h.
    let held : c.is_true.result ≡ is_true c.in-Some.z = search rules in
    let next : c.args.self.now.place + 1 ≡ suc c.args.self.now.place = omega arith in
    record {
      notes = [];
      goes = λ rest.
          ap (proceed p (machine_view p.bodies c.args.self.now rest))
          (given-some (term_view c.args.test.now) _ c.in-Some.z (now_view c.args.self.now.now) (now_view c.asked.new.self) c.args.name.now rest (λ v t. jumping c.args.place (is_true v) t) c.in_ok-asked.ensures c.in-Some.is
          ∙ ap (λ held. jumping c.args.place held (now_view c.asked.new.self rest)) (sym held ∙ c.if-is_true.true))
          ∙ ap (Going []) (placed-at (machine_view p.bodies c.args.self.now rest) (c.args.self.now.place + 1) (now_view c.asked.new.self rest) next);
      heard = refl;
    }

pub returns-else-is_true : goal.returns-else-is_true
returns-else-is_true c = λ p h.
    let held : c.is_true.result ≡ is_true c.in-Some.z = search rules in
    record {
      notes = [];
      goes = λ rest.
          ap (proceed p (machine_view p.bodies c.args.self.now rest))
          (given-some (term_view c.args.test.now) _ c.in-Some.z (now_view c.args.self.now.now) (now_view c.asked.new.self) c.args.name.now rest (λ v t. jumping c.args.place (is_true v) t) c.in_ok-asked.ensures c.in-Some.is
          ∙ ap (λ held. jumping c.args.place held (now_view c.asked.new.self rest)) (sym held ∙ c.if-is_true.false));
      heard = refl;
    }
