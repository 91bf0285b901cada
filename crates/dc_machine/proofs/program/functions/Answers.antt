use Rattle.std.proofs.Common.{◌∙◌, ◌<◌, ◌++◌, ◌∷◌, [], sym, ap, map, take, length, arith}
use Rattle.dc_goto.specs.View.{sig_view}
use Rattle.dc_machine.proofs.Indexes.{index-next}
use Rattle.dc_machine.proofs.Ends.{mapped-length, mapped-twice}
use Rattle.dc_machine.proofs.program.functions.Goals as goal

pub loop-place-preserved : goal.loop-place-preserved
loop-place-preserved c =
    let lt : c.loop-place.place < length c.args.sigs.now = omega arith in
    index-next (map (λ sig. sig.name) (map sig_view (take c.loop-place.place c.args.sigs.now))) _ c.as_slice.result.now c.loop-place.index c.add.new.self c.loop-place.place c.loop-place.invariant
    (mapped-length sig_view (λ sig. sig.name) c.args.sigs.now c.loop-place.place lt)
    (mapped-twice sig_view (λ sig. sig.name) c.args.sigs.now c.loop-place.place _ lt c.index-sigs-place.is ∙ ap (λ n. map (λ sig. sig.name) (map sig_view (take c.loop-place.place c.args.sigs.now)) ++ n ∷ []) (sym c.as_slice.ensures))
    c.in_ok-add.ensures
