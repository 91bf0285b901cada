use Rattle.std.proofs.Common.{ap, sym, ◌∙◌}
use Rattle.dc_core.specs.Run.{checked}
use Rattle.dc_machine.specs.View.{now_view}
use Rattle.dc_goto.specs.Acts.{Next}
use Rattle.dc_machine.proofs.Going.{then_cover}
use Rattle.dc_machine.proofs.now.Now.covers.Goals as goal

pub returns : goal.returns
returns g c = λ p name. record {
  notes = checked c.args.check.now c.is_covered-held.result;
  goes = λ rest.
      c.in_ok-place.ensures rest (then_cover c.args.check.now)
      ∙ ap (λ held. Next (checked c.args.check.now held) (now_view c.asked_two.new.self rest)) (sym (c.is_covered-held.ensures rest));
  heard = c.in_ok-check.ensures.ok;
}
