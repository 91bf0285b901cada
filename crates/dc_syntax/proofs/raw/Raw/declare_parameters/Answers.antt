use Rattle.std.proofs.Common.{map, sym, ap, ◌∙◌, arith}
use Rattle.dc_syntax.specs.Trees.{declared_by}
use Rattle.dc_syntax.specs.View.{raw_view}
use Rattle.dc_syntax.proofs.Declaring.{declared_through, declared-parameters_tree}
use Rattle.dc_syntax.proofs.raw.Raw.declare_parameters.Goals as goal

pub returns-after-loop-parameter : goal.returns-after-loop-parameter
returns-after-loop-parameter c =
    let old = c.args.names.now.names in
    let parameters = c.in-Some.parameters.now in
    declared_through parameters c.loop-parameter.parameter-index _ _ _ (omega arith) c.loop-parameter.invariant
    (ap (λ o. declared_by o old) (sym c.in-Some.ensures) ∙ declared-parameters_tree (map raw_view parameters) old)
