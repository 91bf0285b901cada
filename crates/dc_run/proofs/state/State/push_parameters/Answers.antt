use Rattle.std.proofs.Common.{◌+◌, ◌∷◌, [], pos, arith, rules, refl, drop, get_or}
use Rattle.std.proofs.lemmas.Int.{to_z-of_z}
use Rattle.std.proofs.lemmas.List.{drop_all}
use Rattle.dc_core.specs.Event.{Create}
use Rattle.dc_core.specs.Run.{Did}
use Rattle.dc_core.specs.World.{next_object}
use Rattle.dc_run.specs.View.{state_view}
use Rattle.dc_run.proofs.Parts.{resumed_same, resumed_more, resumed_stop}
use Rattle.dc_run.proofs.Calls.{begun_full, begun_refused, parameters_full, parameters_step, parameters_none, drop_next}
use Rattle.dc_run.proofs.state.State.push_parameters.Goals as goal
use mir.Syntax.{w128}
use mir.Val.{SFits}

pub returns-then-count-ge65535-clause-part : goal.returns-then-count-ge65535-clause-part
returns-then-count-ge65535-clause-part g c = λ go.
    begun_full _ _ (state_view c.loop-argument.self) _ _ (c.loop-argument.invariant.part go)
    (λ choices. parameters_full (drop c.loop-argument.argument-index c.args.arguments.now) (drop (c.loop-argument.argument-index + 1) c.args.arguments.now) (get_or c.args.arguments.now c.loop-argument.argument-index (pos 0)) c.loop-argument.places.items (state_view c.loop-argument.self choices) go
    (drop_next c.args.arguments.now c.loop-argument.argument-index (pos 0) _ refl (omega arith)) (omega (arith, c.count.ensures.value, c.if-count-ge65535.true)))

pub returns-in_err-push_parameter-clause-part : goal.returns-in_err-push_parameter-clause-part
returns-in_err-push_parameter-clause-part g c = λ go.
    begun_refused _ _ (state_view c.push_parameter.new.self) c.from_residual.result _ _ c.from_residual.ensures.0 (resumed_stop _ _ _ _ _ (c.loop-argument.invariant.part go) c.in_err-push_parameter.ensures.refused)

pub loop-argument-preserved : goal.loop-argument-preserved
loop-argument-preserved g c =
    let f : SFits w128 (get_or c.args.arguments.now c.loop-argument.argument-index (pos 0)) = search rules in
    let e = to_z-of_z w128 (get_or c.args.arguments.now c.loop-argument.argument-index (pos 0)) f in
    record {
      part = λ go.
          resumed_more _ _ _ (Did (Create (next_object (state_view c.loop-argument.self []).world)) ∷ []) _ _ _ (c.loop-argument.invariant.part go)
          (λ choices. parameters_step (drop c.loop-argument.argument-index c.args.arguments.now) (drop (c.loop-argument.argument-index + 1) c.args.arguments.now) (get_or c.args.arguments.now c.loop-argument.argument-index (pos 0)) c.loop-argument.places.items c.push_parameter.new.places.items (state_view c.loop-argument.self choices) (state_view c.push_parameter.new.self choices) go
          (drop_next c.args.arguments.now c.loop-argument.argument-index (pos 0) _ refl (omega arith)) (omega (arith, c.count.ensures.value, c.if-count-ge65535.false)) (rw e at c.in_ok-push_parameter.ensures.state choices) c.in_ok-push_parameter.ensures.places)
          c.in_ok-push_parameter.ensures.told;
      few = c.push_parameter.ensures.few;
    }

pub returns-clause-part : goal.returns-clause-part
returns-clause-part g c = λ go.
    resumed_same _ _ _ _ _ (c.loop-argument.invariant.part go)
    (λ choices. parameters_none (drop c.loop-argument.argument-index c.args.arguments.now) c.loop-argument.places.items (state_view c.loop-argument.self choices) go (drop_all c.loop-argument.argument-index c.args.arguments.now (omega arith)))
