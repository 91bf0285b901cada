use Rattle.std.proofs.Common.{ap, sym}
use Rattle.dc_core.specs.Run.{checked}
use Rattle.dc_goto.specs.Acts.{Next}
use Rattle.dc_machine.specs.View.{now_view}
use Rattle.dc_machine.proofs.now.Now.inside.Goals as goal

pub returns : goal.returns
returns g c = λ p name. record {
  notes = checked c.args.check.now c.inside_below-held.result;
  goes = λ rest. ap (λ held. Next (checked c.args.check.now held) (now_view c.args.self.now rest)) (sym c.inside_below-held.ensures);
  heard = c.in_ok-check.ensures.ok;
}
