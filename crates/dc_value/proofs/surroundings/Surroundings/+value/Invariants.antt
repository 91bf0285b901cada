use Rattle.std.proofs.Common.{◌≡◌, ◌+◌, ◌*◌, max, ℤ, ◌∷◌, ◌++◌, [], reverse, ◌-ℤ◌}
use Rattle.dc_core.proofs.term.Term.TheLaws.{the_size}
use Rattle.dc_core.specs.View.{term_view}
use Rattle.dc_num.specs.Conversions.{natural}
use Rattle.dc_goto.specs.Values.{Values, term_value, turns}
use Rattle.dc_value.specs.View.{surroundings_view}
use Rattle.dc_value.proofs.surroundings.Surroundings.+value.Given as goal

-- a form with operands is above the greatest of them, and below the whole
abbrev pub decreases-value : goal.decreases-value
decreases-value l = 4 * the_size l.term.now

abbrev pub decreases-converted : goal.decreases-converted
decreases-converted l = 4 * the_size l.e.now + 1

abbrev pub decreases-negated : goal.decreases-negated
decreases-negated l = 4 * the_size l.e.now + 1

abbrev pub decreases-loaded : goal.decreases-loaded
decreases-loaded l = 4 * the_size l.place.now + 1

abbrev pub decreases-asked_property : goal.decreases-asked_property
decreases-asked_property l = 4 * the_size l.p.now + 1

abbrev pub decreases-operated : goal.decreases-operated
decreases-operated l = 4 * (max (the_size l.a.now) (the_size l.b.now)) + 1

abbrev pub decreases-decided : goal.decreases-decided
decreases-decided l = 4 * (max (the_size l.a.now) (the_size l.b.now)) + 1

abbrev pub decreases-moved_pointer : goal.decreases-moved_pointer
decreases-moved_pointer l = 4 * (max (the_size l.p.now) (the_size l.count.now)) + 1

abbrev pub decreases-pointer_distance : goal.decreases-pointer_distance
decreases-pointer_distance l = 4 * (max (the_size l.p.now) (the_size l.q.now)) + 1

abbrev pub decreases-tested_range : goal.decreases-tested_range
decreases-tested_range l = 4 * (max (the_size l.p.now) (the_size l.len.now)) + 1

abbrev pub decreases-chosen : goal.decreases-chosen
decreases-chosen l = 4 * (max (the_size l.test.now) (max (the_size l.a.now) (the_size l.b.now))) + 1

abbrev pub decreases-ordered : goal.decreases-ordered
decreases-ordered l = 4 * (max (the_size l.low.now) (max (the_size l.p.now) (the_size l.high.now))) + 1

abbrev pub decreases-quantified : goal.decreases-quantified
decreases-quantified l = 4 * (max (the_size l.low.now) (max (the_size l.high.now) (the_size l.body.now))) + 3

abbrev pub decreases-turns : goal.decreases-turns
decreases-turns l = 4 * the_size l.body.now + 2

abbrev pub decreases-value_at : goal.decreases-value_at
decreases-value_at l = 4 * the_size l.body.now + 1

abbrev pub invariant-turns-loop-turn : goal.invariant-turns-loop-turn
invariant-turns-loop-turn l =
    let body : ℤ → Values ℤ = λ i. term_value (surroundings_view l.self) (l.fn.vars.items ++ i ∷ []) (term_view l.body) in
    record {
      same : l.vars.items ≡ l.fn.vars.items;
      going : turns l.quantifier body (natural (l.high -ℤ l.low)) l.low (reverse l.fn.seen.items) ≡ turns l.quantifier body (natural (l.high -ℤ l.turn)) l.turn (reverse l.seen.items);
    }
