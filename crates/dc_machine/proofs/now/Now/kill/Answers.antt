use Rattle.std.proofs.Common.{[], map, ap, sym}
use Rattle.dc_core.specs.Event.{Kill}
use Rattle.dc_core.specs.Run.{Did}
use Rattle.dc_goto.specs.Acts.{Next, newer}
use Rattle.dc_machine.specs.View.{now_view}
use Rattle.dc_machine.proofs.now.Now.kill.Goals as goal

pub returns : goal.returns
returns g c = λ p name. record {
  notes = map (λ object. Did (Kill object)) (newer c.args.first (now_view c.args.self.now []).world.locals);
  goes = λ rest. ap (Next (map (λ object. Did (Kill object)) (newer c.args.first (now_view c.args.self.now []).world.locals))) (sym (c.kill_newer.ensures.left rest));
  heard = c.kill_newer.ensures.told;
}
