use Rattle.std.proofs.Common.{◌∙◌, ◌<◌, ◌++◌, ◌∷◌, [], sym, ap, map, take, length, arith}
use Rattle.dc_goto.specs.View.{body_view}
use Rattle.dc_machine.proofs.Indexes.{index-next}
use Rattle.dc_machine.proofs.Ends.{mapped-length, mapped-twice}
use Rattle.dc_machine.proofs.program.bodies.Goals as goal

pub loop-place-preserved : goal.loop-place-preserved
loop-place-preserved c =
    let lt : c.loop-place.place < length c.args.bodies.now = omega arith in
    index-next (map (λ body. body.name) (map body_view (take c.loop-place.place c.args.bodies.now))) _ c.as_slice.result.now c.loop-place.index c.add.new.self c.loop-place.place c.loop-place.invariant
    (mapped-length body_view (λ body. body.name) c.args.bodies.now c.loop-place.place lt)
    (mapped-twice body_view (λ body. body.name) c.args.bodies.now c.loop-place.place _ lt c.index-bodies-place.is ∙ ap (λ n. map (λ body. body.name) (map body_view (take c.loop-place.place c.args.bodies.now)) ++ n ∷ []) (sym c.as_slice.ensures))
    c.in_ok-add.ensures
