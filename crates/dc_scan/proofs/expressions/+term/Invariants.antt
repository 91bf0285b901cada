use Rattle.std.proofs.Common.{◌+◌, ◌*◌}
use Rattle.dc_scan.proofs.expressions.+term.Given as goal

abbrev pub decreases-next_part : goal.decreases-next_part
decreases-next_part l = l.height * 8 + 1

abbrev pub decreases-read_load : goal.decreases-read_load
decreases-read_load l = l.height * 8 + 2

abbrev pub decreases-read_convert : goal.decreases-read_convert
decreases-read_convert l = l.height * 8 + 2

abbrev pub decreases-read_unary : goal.decreases-read_unary
decreases-read_unary l = l.height * 8 + 2

abbrev pub decreases-read_lazy : goal.decreases-read_lazy
decreases-read_lazy l = l.height * 8 + 2

abbrev pub decreases-read_choice : goal.decreases-read_choice
decreases-read_choice l = l.height * 8 + 2

abbrev pub decreases-read_binary : goal.decreases-read_binary
decreases-read_binary l = l.height * 8 + 2

abbrev pub decreases-read_moved : goal.decreases-read_moved
decreases-read_moved l = l.height * 8 + 2

abbrev pub decreases-read_distance : goal.decreases-read_distance
decreases-read_distance l = l.height * 8 + 2

abbrev pub decreases-read_asked : goal.decreases-read_asked
decreases-read_asked l = l.height * 8 + 2

abbrev pub decreases-read_tested : goal.decreases-read_tested
decreases-read_tested l = l.height * 8 + 2

abbrev pub decreases-read_between : goal.decreases-read_between
decreases-read_between l = l.height * 8 + 2

abbrev pub decreases-read_quantified : goal.decreases-read_quantified
decreases-read_quantified l = l.height * 8 + 2

abbrev pub decreases-read_placed : goal.decreases-read_placed
decreases-read_placed l = l.height * 8 + 3

abbrev pub decreases-read_claimed : goal.decreases-read_claimed
decreases-read_claimed l = l.height * 8 + 4

abbrev pub decreases-read_operated : goal.decreases-read_operated
decreases-read_operated l = l.height * 8 + 5

abbrev pub decreases-read_opened : goal.decreases-read_opened
decreases-read_opened l = l.height * 8 + 6

abbrev pub decreases-read_parenthesised : goal.decreases-read_parenthesised
decreases-read_parenthesised l = l.height * 8 + 7

abbrev pub decreases-read_term : goal.decreases-read_term
decreases-read_term l = l.height * 8
