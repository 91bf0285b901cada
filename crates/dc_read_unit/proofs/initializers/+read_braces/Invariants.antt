use Rattle.dc_read_unit.proofs.initializers.+read_braces.Given as goal

abbrev pub decreases-read_braces : goal.decreases-read_braces
decreases-read_braces l = l.height
