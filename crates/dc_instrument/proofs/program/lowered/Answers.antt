use Rattle.dc_core.specs.View.{function_view}
use Rattle.dc_core.proofs.Said.{has_function}
use Rattle.dc_instrument.proofs.Emitting.{lowered_said}
use Rattle.dc_instrument.proofs.program.lowered.Goals as goal

pub returns-in-Some : goal.returns-in-Some
returns-in-Some c =
    lowered_said c.lowered_function.result c.args.p.now c.statics.result.now (function_view c.in-Some.f.now) c.statics.ensures c.in-Some.ensures.found c.lowered_function.ensures

pub returns-in-None : goal.returns-in-None
returns-in-None c = λ first says. absurd (has_function first c.args.p.now says c.in-None.ensures.found)
