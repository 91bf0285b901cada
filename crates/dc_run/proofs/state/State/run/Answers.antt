use Rattle.std.proofs.Common.{◌≡◌, ◌+◌, ◌∙◌, true, false, ap, sym, arith, drop, map}
use Rattle.dc_core.specs.Run.{contract_mode, tick, perform, run}
use Rattle.dc_core.specs.View.{stmt_view}
use Rattle.dc_world.specs.Sets.{set_view}
use Rattle.dc_run.specs.Part.{goes_on}
use Rattle.dc_run.specs.View.{state_view}
use Rattle.dc_run.proofs.Parts.{part_refused, part_stops, cut_then, resumed_come, resumed_cut, resumed_part}
use Rattle.dc_run.proofs.Calls.{drop_next}
use Rattle.dc_run.proofs.Statements.{run_more}
use Rattle.dc_run.proofs.state.State.run.Goals as goal

pub returns-in_err-flow-clause-part : goal.returns-in_err-flow-clause-part
returns-in_err-flow-clause-part g c =
    part_refused _ (state_view c.step.new.self) c.from_residual.result _ _ c.from_residual.ensures.0
    (resumed_cut _ (λ choices. run contract_mode c.args.name.now (set_view c.args.set.now) c.args.places.now (map stmt_view (drop c.loop-stmt.stmt-index c.args.body.now)) (state_view c.loop-stmt.self choices)) _ _ _ c.loop-stmt.invariant.part (cut_then (λ choices. tick (state_view c.loop-stmt.self choices) (perform contract_mode c.args.name.now (set_view c.args.set.now) c.args.places.now (stmt_view c.stmt-item.result))) (λ choices. run contract_mode c.args.name.now (set_view c.args.set.now) c.args.places.now (map stmt_view (drop c.loop-stmt.stmt-index c.args.body.now)) (state_view c.loop-stmt.self choices)) (λ choices. run contract_mode c.args.name.now (set_view c.args.set.now) c.args.places.now (map stmt_view (drop (c.loop-stmt.stmt-index + 1) c.args.body.now))) _ _ (λ choices. run_more c.args.name.now (set_view c.args.set.now) c.args.places.now (map stmt_view (drop c.loop-stmt.stmt-index c.args.body.now)) (map stmt_view (drop (c.loop-stmt.stmt-index + 1) c.args.body.now)) (stmt_view c.stmt-item.result) (state_view c.loop-stmt.self choices)
    (ap (map stmt_view) (drop_next c.args.body.now c.loop-stmt.stmt-index c.stmt-item.result c.stmt-item.result c.stmt-item.is (omega arith)))) c.in_err-flow.ensures.part))

pub returns-then-not-goes_on-clause-part : goal.returns-then-not-goes_on-clause-part
returns-then-not-goes_on-clause-part g c =
    let e : goes_on c.in_ok-flow.flow ≡ false = sym c.goes_on.ensures ∙ c.if-not-goes_on.true in
    resumed_come _ (λ choices. run contract_mode c.args.name.now (set_view c.args.set.now) c.args.places.now (map stmt_view (drop c.loop-stmt.stmt-index c.args.body.now)) (state_view c.loop-stmt.self choices)) (state_view c.step.new.self) c.in_ok-flow.flow _ _ _ c.loop-stmt.invariant.part
    (part_stops (λ choices. tick (state_view c.loop-stmt.self choices) (perform contract_mode c.args.name.now (set_view c.args.set.now) c.args.places.now (stmt_view c.stmt-item.result))) (λ choices. run contract_mode c.args.name.now (set_view c.args.set.now) c.args.places.now (map stmt_view (drop c.loop-stmt.stmt-index c.args.body.now)) (state_view c.loop-stmt.self choices)) (λ choices. run contract_mode c.args.name.now (set_view c.args.set.now) c.args.places.now (map stmt_view (drop (c.loop-stmt.stmt-index + 1) c.args.body.now))) (state_view c.step.new.self) c.in_ok-flow.flow _ _ (λ choices. run_more c.args.name.now (set_view c.args.set.now) c.args.places.now (map stmt_view (drop c.loop-stmt.stmt-index c.args.body.now)) (map stmt_view (drop (c.loop-stmt.stmt-index + 1) c.args.body.now)) (stmt_view c.stmt-item.result) (state_view c.loop-stmt.self choices)
    (ap (map stmt_view) (drop_next c.args.body.now c.loop-stmt.stmt-index c.stmt-item.result c.stmt-item.result c.stmt-item.is (omega arith)))) e c.in_ok-flow.ensures.part)

pub loop-stmt-preserved : goal.loop-stmt-preserved
loop-stmt-preserved g c =
    let e : goes_on c.in_ok-flow.flow ≡ true = sym c.goes_on.ensures ∙ c.if-not-goes_on.false in
    record {
      part = resumed_part _ (λ choices. run contract_mode c.args.name.now (set_view c.args.set.now) c.args.places.now (map stmt_view (drop c.loop-stmt.stmt-index c.args.body.now)) (state_view c.loop-stmt.self choices)) (λ choices. tick (state_view c.loop-stmt.self choices) (perform contract_mode c.args.name.now (set_view c.args.set.now) c.args.places.now (stmt_view c.stmt-item.result))) (λ choices. run contract_mode c.args.name.now (set_view c.args.set.now) c.args.places.now (map stmt_view (drop (c.loop-stmt.stmt-index + 1) c.args.body.now))) (state_view c.step.new.self) c.in_ok-flow.flow _ _ _ c.loop-stmt.invariant.part (λ choices. run_more c.args.name.now (set_view c.args.set.now) c.args.places.now (map stmt_view (drop c.loop-stmt.stmt-index c.args.body.now)) (map stmt_view (drop (c.loop-stmt.stmt-index + 1) c.args.body.now)) (stmt_view c.stmt-item.result) (state_view c.loop-stmt.self choices)
          (ap (map stmt_view) (drop_next c.args.body.now c.loop-stmt.stmt-index c.stmt-item.result c.stmt-item.result c.stmt-item.is (omega arith)))) e c.in_ok-flow.ensures.part;
      few = c.step.ensures.few;
    }
