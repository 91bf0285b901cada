use Rattle.std.proofs.Common.{◌∙◌, arith}
use Rattle.dc_rules.specs.Seen.{types_view}
use Rattle.dc_typing.specs.Seen.{exprs_view}
use Rattle.dc_typing.specs.View.{known, knowing}
use Rattle.dc_typing.proofs.Loops.{arguments-turn, arguments-end, parameters-turn, parameters-end}
use Rattle.dc_typing.proofs.judge.Judge.+typed.Goals as goal

pub typed_arguments-loop-one-preserved : goal.typed_arguments-loop-one-preserved
typed_arguments-loop-one-preserved t c =
    c.loop-one.invariant
    ∙ arguments-turn (known c.args.self.now) c.args.arguments.now c.loop-one.one-index c.one-item.result c.loop-one.all c.push.new.self c.in_ok-typed.field-0
    (omega arith) c.one-item.is c.in_ok-typed.ensures c.in_ok-push.ensures.ok

pub typed_arguments-returns : goal.typed_arguments-returns
typed_arguments-returns t c =
    c.loop-one.invariant ∙ arguments-end (known c.args.self.now) c.args.arguments.now c.loop-one.one-index (exprs_view c.loop-one.all) (omega arith)

pub typed_parameters-loop-one-preserved : goal.typed_parameters-loop-one-preserved
typed_parameters-loop-one-preserved t c =
    c.loop-one.invariant
    ∙ parameters-turn (known c.args.self.now) c.args.parameters.now c.loop-one.one-index c.one-item.result c.loop-one.names c.typed_parameter.new.names c.loop-one.types c.push.new.self
    c.in_ok-typed_parameter.field-0 (omega arith) c.one-item.is c.in_ok-typed_parameter.ensures c.in_ok-push.ensures.ok

pub typed_parameters-returns : goal.typed_parameters-returns
typed_parameters-returns t c =
    c.loop-one.invariant
    ∙ parameters-end (knowing (known c.args.self.now) c.loop-one.names) c.args.parameters.now c.loop-one.one-index (types_view c.loop-one.types) (omega arith)
