use Rattle.dc_core.specs.View.{term_view}
use Rattle.dc_machine.specs.View.{now_view}
use Rattle.dc_machine.proofs.Asking.{asked-two}
use Rattle.dc_machine.proofs.now.Now.asked_two.Goals as goal

pub returns : goal.returns
returns c = asked-two (term_view c.args.a.now) (term_view c.args.b.now) _ _ (now_view c.args.self.now) (now_view c.asked.new.self) (now_view c.asked-2.new.self) c.in_ok-first.ensures c.in_ok-second.ensures
