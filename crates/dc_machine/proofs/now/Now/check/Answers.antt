use Rattle.std.proofs.Common.{ap, sym, ◌∙◌}
use Rattle.dc_core.specs.Run.{checked}
use Rattle.dc_machine.specs.View.{now_view}
use Rattle.dc_goto.specs.Acts.{Next}
use Rattle.dc_machine.proofs.Going.{then_check}
use Rattle.dc_machine.proofs.now.Now.check.Goals as goal

pub returns : goal.returns
returns g c = λ p name. record {
  notes = checked c.args.check.now c.holds-held.result;
  goes = λ rest. c.in_ok-asked.ensures rest (then_check c.args.check.now) ∙ ap (λ held. Next (checked c.args.check.now held) (now_view c.asked.new.self rest)) (sym c.holds-held.ensures);
  heard = c.in_ok-check.ensures.ok;
}
