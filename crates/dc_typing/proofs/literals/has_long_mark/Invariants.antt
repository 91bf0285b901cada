use Rattle.std.proofs.Common.{◌≡◌, drop}
use Rattle.std.specs.List.{list_any}
use Rattle.dc_typing.specs.Literals.{is_long_mark}
use Rattle.dc_typing.proofs.literals.has_long_mark.Given as goal

abbrev pub invariant-loop-b : goal.invariant-loop-b
invariant-loop-b l = list_any is_long_mark (drop l.b-index l.bytes) ≡ list_any is_long_mark l.bytes
