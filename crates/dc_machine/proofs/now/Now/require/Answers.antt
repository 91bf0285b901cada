use Rattle.std.proofs.Common.{[], refl, ap, sym, ◌∙◌}
use Rattle.dc_machine.specs.View.{now_view}
use Rattle.dc_goto.specs.Acts.{required}
use Rattle.dc_machine.proofs.Going.{then_require}
use Rattle.dc_machine.proofs.now.Now.require.Goals as goal

pub returns-then-holds : goal.returns-then-holds
returns-then-holds c = λ p name h. record {
  notes = [];
  goes = λ rest. c.in_ok-asked.ensures rest then_require ∙ ap (λ held. required held (now_view c.asked.new.self rest)) (sym c.holds.ensures ∙ c.if-holds.true);
  heard = refl;
}

pub returns-else-holds : goal.returns-else-holds
returns-else-holds c = λ p name h. record {
  notes = [];
  world = (now_view c.asked.new.self []).world;
  ends = c.in_ok-asked.ensures [] then_require ∙ ap (λ held. required held (now_view c.asked.new.self [])) (sym c.holds.ensures ∙ c.if-holds.false);
  none_left = refl;
  not_dry = refl;
  heard = refl;
}
