use Rattle.std.proofs.Common.{◌++◌, [], ◌∷◌, map, ap, ◌∙◌}
use Rattle.std.proofs.lemmas.List.{map-append}
use Rattle.dc_goto.specs.View.{static_view}
use Rattle.dc_instrument.specs.Lowering.{int_static}
use Rattle.dc_instrument.proofs.Emitting.{statics_turn}
use Rattle.dc_instrument.proofs.program.static_vars.Goals as goal

pub loop-variable-preserved : goal.loop-variable-preserved
loop-variable-preserved c =
    let pushed =
    ap (map static_view) c.in_ok-push.ensures.ok
    ∙ map-append static_view c.loop-variable.vars _
    ∙ ap (λ name. map static_view c.loop-variable.vars ++ int_static name ∷ []) c.in_ok-duplicate.ensures in
    statics_turn _ _ _ c.args.statics.now c.loop-variable.variable-index c.variable-item.result c.loop-variable-test.true c.variable-item.is c.loop-variable.invariant pushed
