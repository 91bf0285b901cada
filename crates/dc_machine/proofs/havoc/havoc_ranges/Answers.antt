use Rattle.std.proofs.Common.{◌∷◌, ◌+◌, [], drop, ap, arith}
use Rattle.dc_goto.specs.Acts.{havocked}
use Rattle.dc_writeset.specs.Sets.{innermost, parts_of, ranges_of}
use Rattle.dc_world.proofs.Drawing.{drawing_cut, resumed_cut, resumed_done, resumed_dry, resumed_more, resumed_none, resumed_same}
use Rattle.dc_machine.proofs.Draws.{havoc-first}
use Rattle.dc_machine.proofs.Listed.{drop-none, named_ranges, no-more, not-there, range_of, range-there}
use Rattle.dc_machine.proofs.havoc.havoc_ranges.Goals as goal

pub loop-at-init : goal.loop-at-init
loop-at-init g c =
    resumed_same (havocked (named_ranges c.args.sets.now.sets) c.args.memory.now) (havocked (named_ranges c.args.sets.now.sets) c.args.memory.now) (havocked (drop 0 (named_ranges c.args.sets.now.sets)) c.args.memory.now) _ _ _ _ (resumed_none (havocked (named_ranges c.args.sets.now.sets) c.args.memory.now) _ _)
    (λ choices. ap (λ ranges. havocked ranges c.args.memory.now choices) (drop-none (named_ranges c.args.sets.now.sets)))

pub returns-in_default : goal.returns-in_default
returns-in_default g c = absurd (not-there parts_of (ranges_of (innermost c.args.sets.now.sets)) c.loop-at.at c.range_at.result c.in_default.is c.range_at.ensures (omega (arith, c.loop-at-test.true, c.range_count-at-end.ensures)))

pub returns-in_err-drawn : goal.returns-in_err-drawn
returns-in_err-drawn g c =
    drawing_cut (λ u. c.havoc_range.new.memory) (havocked (named_ranges c.args.sets.now.sets) c.args.memory.now) c.from_residual.result _ _ _ _ c.from_residual.ensures.0
    (resumed_cut (havocked (named_ranges c.args.sets.now.sets) c.args.memory.now) (havocked (drop c.loop-at.at (named_ranges c.args.sets.now.sets)) c.loop-at.memory) (havocked (range_of c.in-Some.object c.in-Some.from c.in-Some.len ∷ []) c.loop-at.memory) (havocked (drop (c.loop-at.at + 1) (named_ranges c.args.sets.now.sets))) _ _ _ _ _ _ c.loop-at.invariant
    (λ choices. havoc-first (drop c.loop-at.at (named_ranges c.args.sets.now.sets)) (drop (c.loop-at.at + 1) (named_ranges c.args.sets.now.sets)) (range_of c.in-Some.object c.in-Some.from c.in-Some.len) c.loop-at.memory choices (range-there c.args.sets.now.sets c.loop-at.at c.in-Some.object c.in-Some.from c.in-Some.len c.range_at.result c.in-Some.is c.range_at.ensures)) c.in_err-drawn.ensures)

pub returns-in_default-drawn : goal.returns-in_default-drawn
returns-in_default-drawn g c =
    resumed_dry (havocked (named_ranges c.args.sets.now.sets) c.args.memory.now) (havocked (drop c.loop-at.at (named_ranges c.args.sets.now.sets)) c.loop-at.memory) (havocked (range_of c.in-Some.object c.in-Some.from c.in-Some.len ∷ []) c.loop-at.memory) (havocked (drop (c.loop-at.at + 1) (named_ranges c.args.sets.now.sets))) _ _ _ _ _ _ c.loop-at.invariant
    (λ choices. havoc-first (drop c.loop-at.at (named_ranges c.args.sets.now.sets)) (drop (c.loop-at.at + 1) (named_ranges c.args.sets.now.sets)) (range_of c.in-Some.object c.in-Some.from c.in-Some.len) c.loop-at.memory choices (range-there c.args.sets.now.sets c.loop-at.at c.in-Some.object c.in-Some.from c.in-Some.len c.range_at.result c.in-Some.is c.range_at.ensures)) (rw c.in_default-drawn.is at c.in_ok-drawn.ensures)

pub loop-at-preserved : goal.loop-at-preserved
loop-at-preserved g c =
    resumed_more (havocked (named_ranges c.args.sets.now.sets) c.args.memory.now) (havocked (drop c.loop-at.at (named_ranges c.args.sets.now.sets)) c.loop-at.memory) (havocked (range_of c.in-Some.object c.in-Some.from c.in-Some.len ∷ []) c.loop-at.memory) (havocked (drop (c.loop-at.at + 1) (named_ranges c.args.sets.now.sets))) c.havoc_range.new.memory _ _ _ _ _ _ c.loop-at.invariant
    (λ choices. havoc-first (drop c.loop-at.at (named_ranges c.args.sets.now.sets)) (drop (c.loop-at.at + 1) (named_ranges c.args.sets.now.sets)) (range_of c.in-Some.object c.in-Some.from c.in-Some.len) c.loop-at.memory choices (range-there c.args.sets.now.sets c.loop-at.at c.in-Some.object c.in-Some.from c.in-Some.len c.range_at.result c.in-Some.is c.range_at.ensures)) (rw c.in-Some-drawn.is at c.in_ok-drawn.ensures)

pub returns : goal.returns
returns g c =
    resumed_done (havocked (named_ranges c.args.sets.now.sets) c.args.memory.now) (havocked (drop c.loop-at.at (named_ranges c.args.sets.now.sets)) c.loop-at.memory) c.loop-at.memory _ _ _ _ c.loop-at.invariant
    (λ choices. ap (λ ranges. havocked ranges c.loop-at.memory choices) (no-more (λ r. r.range) (ranges_of (innermost c.args.sets.now.sets)) c.loop-at.at (omega (arith, c.loop-at-test.false, c.range_count-at-end.ensures))))
