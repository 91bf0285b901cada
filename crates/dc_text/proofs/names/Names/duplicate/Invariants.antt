use Rattle.std.proofs.Common.{◌≡◌, take}
use Rattle.dc_text.proofs.names.Names.duplicate.Given as goal

abbrev pub invariant-loop-name : goal.invariant-loop-name
invariant-loop-name l = l.copy ≡ take l.name-index l.self
