use Rattle.std.proofs.Common.{◌≡◌, ◌≤◌, ◌+◌, ◌-◌, length}
use Rattle.std.specs.Option.{option_map}
use Rattle.dc_lexer.specs.Reading.{close_len}
use Rattle.dc_lexer.proofs.separators.close_len.Given as goal

abbrev pub invariant-loop-rest : goal.invariant-loop-rest
invariant-loop-rest l =
    (close_len l.bytes ≡ option_map (λ n. (length l.bytes - length l.rest) + n) (close_len l.rest)) × (length l.rest ≤ length l.bytes)

abbrev pub decreases-loop-rest : goal.decreases-loop-rest
decreases-loop-rest l = length l.rest
