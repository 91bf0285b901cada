use Rattle.std.proofs.Common.{ap, sym, ◌∙◌}
use Rattle.dc_core.specs.Run.{checked}
use Rattle.dc_goto.specs.Acts.{Next}
use Rattle.dc_machine.specs.View.{now_view}
use Rattle.dc_machine.proofs.Going.{then_may_free}
use Rattle.dc_machine.proofs.now.Now.check_free.Goals as goal

pub returns : goal.returns
returns g c = λ p name. record {
  notes = checked c.args.check.now c.may_free-held.result;
  goes = λ rest.
      c.in_ok-place.ensures rest (then_may_free c.args.check.now)
      ∙ ap (λ held. Next (checked c.args.check.now held) (now_view c.asked.new.self rest)) (sym (c.may_free-held.ensures rest));
  heard = c.in_ok-check.ensures.ok;
}
