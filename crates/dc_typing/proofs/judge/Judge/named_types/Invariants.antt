use Rattle.std.proofs.Common.{◌≡◌, drop, map}
use Rattle.dc_layout.specs.Types.{type_view}
use Rattle.dc_syntax.specs.View.{raw_view}
use Rattle.dc_typing.specs.TypeNames.{named_types}
use Rattle.dc_typing.specs.View.{known}
use Rattle.dc_typing.proofs.Loops.{named_before}
use Rattle.dc_typing.proofs.judge.Judge.named_types.Given as goal

abbrev pub invariant-loop-one : goal.invariant-loop-one
invariant-loop-one l =
    named_types (known l.self) (map raw_view l.specs) ≡ named_before (map type_view l.types) (named_types (known l.self) (map raw_view (drop l.one-index l.specs)))
