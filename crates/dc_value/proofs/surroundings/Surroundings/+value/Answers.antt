use mir.Syntax.{w128}
use mir.Val.{of_z, to_z}
use Rattle.std.proofs.Common.{◌≡◌, pos, ◌*ℤ◌, ◌-ℤ◌, ◌+ℤ◌, ℤ, ◌∙◌, ◌∷◌, ◌++◌, [], reverse, refl, rules, ap}
use Rattle.std.specs.Prelude.{Err, ◌<ℤ◌}
use Rattle.std.proofs.lemmas.Result.{err_from_is_err_and}
use Rattle.std.specs.Option.{option_map}
use Rattle.dc_core.specs.View.{term_view}
use Rattle.dc_memory.specs.Access.{load}
use Rattle.dc_num.specs.Conversions.{converted, natural, truth}
use Rattle.dc_num.specs.Operators.{unary_of}
use Rattle.dc_program.specs.Kinds.{mem_kind}
use Rattle.dc_program.specs.Values.{distance_of, moved}
use Rattle.dc_goto.specs.Values.{Values, as_pointer, is_true, operated, property, term_value, turns, undecided}
use Rattle.dc_value.specs.View.{surroundings_view}
use Rattle.dc_value.proofs.Steps.{answers_last, one_defined, two_defined, quantified_asked, natural-more, natural-none, turns-more, turns-settled, turns-cut, turns-end}
use Rattle.dc_value.proofs.surroundings.Surroundings.+value.Goals as goal

pub loaded-returns-clause-answer : goal.loaded-returns-clause-answer
loaded-returns-clause-answer t c =
    one_defined (term_value (surroundings_view c.args.self.now) c.args.vars.now.items (term_view c.args.place.now)) (λ p. load (mem_kind c.args.kind) (as_pointer p) c.args.self.now.memory.now) c.in_ok-place.place c.load.result c.defined.result c.args.seen.now.items c.value.new.seen.items
    c.in_ok-place.ensures.answer (search rules) c.defined.ensures

pub negated-returns-clause-answer : goal.negated-returns-clause-answer
negated-returns-clause-answer t c =
    one_defined (term_value (surroundings_view c.args.self.now) c.args.vars.now.items (term_view c.args.e.now)) (λ z. unary_of c.args.op c.args.kind (converted c.args.kind z)) c.in_ok-z.z c.negate.result c.defined.result c.args.seen.now.items c.value.new.seen.items
    c.in_ok-z.ensures.answer (search rules) c.defined.ensures

pub operated-returns-clause-answer : goal.operated-returns-clause-answer
operated-returns-clause-answer t c =
    two_defined (term_value (surroundings_view c.args.self.now) c.args.vars.now.items (term_view c.args.a.now)) (term_value (surroundings_view c.args.self.now) c.args.vars.now.items (term_view c.args.b.now)) (λ a b. operated c.args.op c.args.kind c.args.self.now.memory.now a b) c.in_ok-a.a c.in_ok-b.b c.operate.result c.defined.result c.args.seen.now.items c.value.new.seen.items c.value-2.new.seen.items
    c.in_ok-a.ensures.answer (rw c.in_ok-a.ensures.kept at c.in_ok-b.ensures.answer) (search rules) c.defined.ensures

pub moved_pointer-returns-clause-answer : goal.moved_pointer-returns-clause-answer
moved_pointer-returns-clause-answer t c =
    two_defined (term_value (surroundings_view c.args.self.now) c.args.vars.now.items (term_view c.args.p.now)) (term_value (surroundings_view c.args.self.now) c.args.vars.now.items (term_view c.args.count.now)) (λ p n. option_map (λ q. pos q) (moved c.args.self.now.memory.now (as_pointer p) (n *ℤ pos c.args.size))) c.in_ok-p.p c.in_ok-count.count c.moved.result c.defined.result c.args.seen.now.items c.value.new.seen.items c.value-2.new.seen.items
    c.in_ok-p.ensures.answer (rw c.in_ok-p.ensures.kept at c.in_ok-count.ensures.answer) (search rules) c.defined.ensures

pub pointer_distance-returns-clause-answer : goal.pointer_distance-returns-clause-answer
pointer_distance-returns-clause-answer t c =
    two_defined (term_value (surroundings_view c.args.self.now) c.args.vars.now.items (term_view c.args.p.now)) (term_value (surroundings_view c.args.self.now) c.args.vars.now.items (term_view c.args.q.now)) (λ p q. distance_of c.args.self.now.memory.now c.args.size (as_pointer p) (as_pointer q)) c.in_ok-p.p c.in_ok-q.q c.distance.result c.defined.result c.args.seen.now.items c.value.new.seen.items c.value-2.new.seen.items
    c.in_ok-p.ensures.answer (rw c.in_ok-p.ensures.kept at c.in_ok-q.ensures.answer) (search rules) c.defined.ensures

pub asked_property-returns-clause-answer : goal.asked_property-returns-clause-answer
asked_property-returns-clause-answer t c =
    one_defined (term_value (surroundings_view c.args.self.now) c.args.vars.now.items (term_view c.args.p.now)) (λ p. property c.args.property c.args.self.now.memory.now c.args.self.now.sets.now (as_pointer p)) c.in_ok-p.p c.property.result c.defined.result c.args.seen.now.items c.value.new.seen.items
    c.in_ok-p.ensures.answer (search rules) c.defined.ensures

pub quantified-returns-clause-answer : goal.quantified-returns-clause-answer
quantified-returns-clause-answer t c =
    quantified_asked (surroundings_view c.args.self.now) c.args.vars.now.items c.value-2.new.vars.items c.args.quantifier 0 c.args.kind (term_view c.args.low.now) (term_view c.args.high.now) (term_view c.args.body.now) c.in_ok-value.field-0 c.in_ok-value-2.field-0 (to_z w128 (of_z w128 c.convert-low.result)) (to_z w128 (of_z w128 c.convert-high.result)) c.turns.result c.args.seen.now.items c.value.new.seen.items c.value-2.new.seen.items c.turns.new.seen.items
    c.in_ok-value.ensures.answer (rw c.in_ok-value.ensures.kept at c.in_ok-value-2.ensures.answer)
    (c.in_ok-value-2.ensures.kept ∙ c.in_ok-value.ensures.kept) (search rules) (search rules) (search rules) c.turns.ensures.answer

pub turns-returns-in_err-value_at-clause-answer : goal.turns-returns-in_err-value_at-clause-answer
turns-returns-in_err-value_at-clause-answer t c =
    let high : to_z w128 (of_z w128 c.args.high) ≡ c.args.high = search rules in
    let low : to_z w128 (of_z w128 c.args.low) ≡ c.args.low = search rules in
    let going = rw (high, low) at c.loop-turn.invariant.going in
    let under : to_z w128 c.loop-turn.turn-bits <ℤ c.args.high = search rules in
    let next = to_z w128 c.loop-turn.turn-bits +ℤ pos 1 in
    let more = natural-more c.args.high (to_z w128 c.loop-turn.turn-bits) next refl under in
    let exit = err_from_is_err_and c.from_residual.result c.from_residual.ensures.1 in
    let cut = turns-cut (surroundings_view c.args.self.now) c.args.vars.now.items c.loop-turn.vars.items c.args.quantifier (term_view c.args.body.now) (natural (c.args.high -ℤ to_z w128 c.loop-turn.turn-bits)) (natural (c.args.high -ℤ next)) (to_z w128 c.loop-turn.turn-bits) c.in_err-value_at.field-0.0 c.loop-turn.seen.items c.value_at.new.seen.items more c.loop-turn.invariant.same c.in_err-value_at.ensures.answer in
    let body : ℤ → Values ℤ = λ i. term_value (surroundings_view c.args.self.now) (c.args.vars.now.items ++ i ∷ []) (term_view c.args.body.now) in
    rw (exit.1, exit.2) (answers_last (turns c.args.quantifier body (natural (c.args.high -ℤ c.args.low)) c.args.low) (turns c.args.quantifier body (natural (c.args.high -ℤ to_z w128 c.loop-turn.turn-bits)) (to_z w128 c.loop-turn.turn-bits)) (Err c.in_err-value_at.field-0.0) c.args.seen.now.items c.loop-turn.seen.items c.value_at.new.seen.items going cut)

pub turns-returns-then-settles-clause-answer : goal.turns-returns-then-settles-clause-answer
turns-returns-then-settles-clause-answer t c =
    let body : ℤ → Values ℤ = λ i. term_value (surroundings_view c.args.self.now) (c.args.vars.now.items ++ i ∷ []) (term_view c.args.body.now) in
    let high : to_z w128 (of_z w128 c.args.high) ≡ c.args.high = search rules in
    let low : to_z w128 (of_z w128 c.args.low) ≡ c.args.low = search rules in
    let going = rw (high, low) at c.loop-turn.invariant.going in
    let under : to_z w128 c.loop-turn.turn-bits <ℤ c.args.high = search rules in
    let next = to_z w128 c.loop-turn.turn-bits +ℤ pos 1 in
    let more = natural-more c.args.high (to_z w128 c.loop-turn.turn-bits) next refl under in
    let settled = going ∙ turns-settled c.args.quantifier body (natural (c.args.high -ℤ to_z w128 c.loop-turn.turn-bits)) (natural (c.args.high -ℤ next)) (to_z w128 c.loop-turn.turn-bits) c.in_ok-value_at.field-0 (reverse c.loop-turn.seen.items) (reverse c.value_at.new.seen.items) more (rw c.loop-turn.invariant.same at c.in_ok-value_at.ensures.answer) (search rules) in
    let told : truth (is_true c.in_ok-value_at.field-0) ≡ c.truth.result = search rules in
    search (rules, rw told at settled)

pub turns-loop-turn-preserved : goal.turns-loop-turn-preserved
turns-loop-turn-preserved t c =
    let body : ℤ → Values ℤ = λ i. term_value (surroundings_view c.args.self.now) (c.args.vars.now.items ++ i ∷ []) (term_view c.args.body.now) in
    let high = to_z w128 (of_z w128 c.args.high) in
    let next = to_z w128 (of_z w128 (to_z w128 c.loop-turn.turn-bits +ℤ pos 1)) in
    let step : to_z w128 (of_z w128 (to_z w128 c.loop-turn.turn-bits +ℤ pos 1)) ≡ to_z w128 c.loop-turn.turn-bits +ℤ pos 1 = search rules in
    record {
      same = c.in_ok-value_at.ensures.kept ∙ c.loop-turn.invariant.same;
      going =
          c.loop-turn.invariant.going
          ∙ turns-more c.args.quantifier body (natural (high -ℤ to_z w128 c.loop-turn.turn-bits)) (natural (high -ℤ next)) (to_z w128 c.loop-turn.turn-bits) next c.in_ok-value_at.field-0 (reverse c.loop-turn.seen.items) (reverse c.value_at.new.seen.items)
          (natural-more high (to_z w128 c.loop-turn.turn-bits) next step (search rules)) step (rw c.loop-turn.invariant.same at c.in_ok-value_at.ensures.answer) (search rules);
    }

pub turns-returns-clause-answer : goal.turns-returns-clause-answer
turns-returns-clause-answer t c =
    let body : ℤ → Values ℤ = λ i. term_value (surroundings_view c.args.self.now) (c.args.vars.now.items ++ i ∷ []) (term_view c.args.body.now) in
    let high : to_z w128 (of_z w128 c.args.high) ≡ c.args.high = search rules in
    let low : to_z w128 (of_z w128 c.args.low) ≡ c.args.low = search rules in
    let going = rw (high, low) at c.loop-turn.invariant.going in
    let ended = going ∙ turns-end c.args.quantifier body (natural (c.args.high -ℤ to_z w128 c.loop-turn.turn-bits)) (to_z w128 c.loop-turn.turn-bits) (reverse c.loop-turn.seen.items) (natural-none c.args.high (to_z w128 c.loop-turn.turn-bits) (search rules)) in
    let told : truth (undecided c.args.quantifier) ≡ c.truth-2.result = search rules in
    search (rules, rw told at ended)
