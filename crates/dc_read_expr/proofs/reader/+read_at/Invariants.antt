use Rattle.dc_read_expr.proofs.reader.+read_at.Given as goal

abbrev pub decreases-read_at : goal.decreases-read_at
decreases-read_at l = l.height
