use Rattle.std.proofs.Common.{◌++◌, [], ◌∷◌, map, ap, ◌∙◌}
use Rattle.dc_goto.specs.View.{instr_view}
use Rattle.dc_instrument.proofs.Emitting.{parameters_turn, view_init}
use Rattle.dc_instrument.proofs.function.put_parameters.Goals as goal

pub loop-i-preserved : goal.loop-i-preserved
loop-i-preserved c =
    let object = c.in_ok-object.object in
    let e3 = c.in_ok-put-2.ensures ∙ ap (λ x. map instr_view c.put.new.out ++ x ∷ []) (view_init object c.loop-i.i) in
    parameters_turn _ _ _ _ c.args.first c.loop-i.i c.args.n object c.loop-i-test.true c.in_ok-object.ensures c.loop-i.invariant c.in_ok-put.ensures e3
