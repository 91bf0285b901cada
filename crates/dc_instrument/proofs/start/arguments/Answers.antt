use Rattle.std.proofs.Common.{◌++◌, [], ◌∷◌, map, ap, ◌∙◌}
use Rattle.std.proofs.lemmas.List.{map-append}
use Rattle.dc_core.specs.View.{term_view}
use Rattle.dc_instrument.proofs.Emitting.{arguments_turn, view_register}
use Rattle.dc_instrument.proofs.start.arguments.Goals as goal

pub loop-i-preserved : goal.loop-i-preserved
loop-i-preserved c =
    let pushed =
    ap (map term_view) c.in_ok-push.ensures.ok
    ∙ map-append term_view c.loop-i.terms _
    ∙ ap (λ t. map term_view c.loop-i.terms ++ t ∷ []) (view_register c.loop-i.i) in
    arguments_turn _ _ _ c.loop-i.i c.args.n c.loop-i-test.true c.loop-i.invariant pushed
