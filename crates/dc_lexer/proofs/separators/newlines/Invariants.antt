use Rattle.std.proofs.Common.{◌≡◌, ◌≤◌, take}
use Rattle.dc_lexer.specs.Pieces.{newlines}
use Rattle.dc_lexer.proofs.separators.newlines.Given as goal

abbrev pub invariant-loop-b : goal.invariant-loop-b
invariant-loop-b l = (l.count ≡ newlines (take l.b-index l.bytes)) × (l.count ≤ l.b-index)
