use Rattle.std.proofs.Common.{◌∙◌}
use Rattle.dc_form.proofs.Turns.{error_as, each_no_name, each_turn}
use Rattle.dc_form.proofs.signature.read_each.Goals as goal

pub returns-in-Err-read_name-clause-none : goal.returns-in-Err-read_name-clause-none
returns-in-Err-read_name-clause-none c =
    λ e. c.loop-error.invariant ∙ each_no_name _ c.loop-error.tokens _ c.in_default.ensures.rest (c.in-Err-read_name.ensures.none (error_as c.in-Err-read_name.error _ e))

pub loop-error-preserved : goal.loop-error-preserved
loop-error-preserved c =
    let f = c.in_default-read_name.ensures.found in
    c.loop-error.invariant ∙ each_turn _ _ _ _ c.loop-error.tokens _ _ _ c.in_default.ensures.found c.in_default.ensures.rest f.0 f.1 c.take.ensures.is c.if-not-take.false c.take.ensures.rest f.2
