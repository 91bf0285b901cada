use Rattle.std.proofs.Common.{◌≡◌, drop, map}
use Rattle.dc_rules.specs.Seen.{types_view}
use Rattle.dc_syntax.specs.Trees.{Assigned, Parameters}
use Rattle.dc_syntax.specs.View.{raw_view, arguments_tree, parameters_tree, more_tree}
use Rattle.dc_typing.specs.Known.{within}
use Rattle.dc_typing.specs.Seen.{exprs_view}
use Rattle.dc_typing.specs.Typed.{typed_arguments, typed_parameters}
use Rattle.dc_typing.specs.View.{known, knowing}
use Rattle.dc_typing.proofs.Loops.{arguments_before, parameters_before}
use Rattle.dc_typing.proofs.judge.Judge.+typed.Given as goal

abbrev pub invariant-typed_arguments-loop-one : goal.invariant-typed_arguments-loop-one
invariant-typed_arguments-loop-one l =
    typed_arguments (known l.self) (arguments_tree (map raw_view l.arguments))
    ≡ arguments_before (exprs_view l.all) (typed_arguments (known l.self) (more_tree Assigned (map raw_view (drop l.one-index l.arguments))))

abbrev pub invariant-typed_parameters-loop-one : goal.invariant-typed_parameters-loop-one
invariant-typed_parameters-loop-one l =
    typed_parameters (within (known l.self)) (parameters_tree (map raw_view l.parameters))
    ≡ parameters_before (types_view l.types) (typed_parameters (knowing (known l.self) l.names) (more_tree Parameters (map raw_view (drop l.one-index l.parameters))))
