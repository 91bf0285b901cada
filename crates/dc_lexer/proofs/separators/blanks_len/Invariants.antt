use Rattle.std.proofs.Common.{◌≡◌, ◌≤◌, ◌+◌, length}
use Rattle.std.specs.List.{prefix_len}
use Rattle.dc_lexer.specs.Pieces.{is_blank}
use Rattle.dc_lexer.proofs.separators.blanks_len.Given as goal

abbrev pub invariant-loop-rest : goal.invariant-loop-rest
invariant-loop-rest l =
    (prefix_len is_blank l.bytes + length l.rest ≡ length l.bytes + prefix_len is_blank l.rest) × (length l.rest ≤ length l.bytes)

abbrev pub decreases-loop-rest : goal.decreases-loop-rest
decreases-loop-rest l = length l.rest
