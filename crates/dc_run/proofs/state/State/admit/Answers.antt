use Rattle.std.proofs.Common.{◌∙◌, sym, ap}
use Rattle.dc_core.specs.View.{function_view}
use Rattle.dc_run.specs.Entry.{admitted_if}
use Rattle.dc_run.specs.View.{state_view}
use Rattle.dc_run.proofs.Parts.{part_same}
use Rattle.dc_run.proofs.state.State.admit.Goals as goal

pub returns : goal.returns
returns g c =
    let held = rw c.required.ensures at c.all_hold.ensures in
    part_same _ _ (state_view c.call_and_ensure.new.self) c.call_and_ensure.result _ _
    (λ choices. ap (admitted_if (function_view c.args.f.now) c.args.arguments.now (state_view c.args.self.now choices)) (sym held ∙ c.if-not-all_hold.false))
    c.call_and_ensure.ensures
