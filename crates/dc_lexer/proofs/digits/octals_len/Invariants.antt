use Rattle.std.proofs.Common.{◌≡◌, ◌≤◌, ◌+◌, length}
use Rattle.std.specs.List.{prefix_len}
use Rattle.dc_lexer.specs.Words.{is_octal_digit}
use Rattle.dc_lexer.proofs.digits.octals_len.Given as goal

abbrev pub invariant-loop-rest : goal.invariant-loop-rest
invariant-loop-rest l =
    (prefix_len is_octal_digit l.bytes + length l.rest ≡ length l.bytes + prefix_len is_octal_digit l.rest) × (length l.rest ≤ length l.bytes)

abbrev pub decreases-loop-rest : goal.decreases-loop-rest
decreases-loop-rest l = length l.rest
