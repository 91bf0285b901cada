use Rattle.std.proofs.Common.{◌≡◌, drop, map}
use Rattle.std.specs.List.{list_all}
use Rattle.dc_syntax.specs.View.{raw_view}
use Rattle.dc_typing.specs.Plain.{is_plain}
use Rattle.dc_typing.proofs.plain.+plain.Given as goal

abbrev pub invariant-are_plain-loop-one : goal.invariant-are_plain-loop-one
invariant-are_plain-loop-one l = list_all is_plain (map raw_view (drop l.one-index l.all)) ≡ list_all is_plain (map raw_view l.all)
