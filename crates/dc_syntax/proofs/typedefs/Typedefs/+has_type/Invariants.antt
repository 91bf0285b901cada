use Rattle.dc_syntax.proofs.typedefs.Typedefs.+has_type.Given as goal

abbrev pub decreases-has_type : goal.decreases-has_type
decreases-has_type l = goal.size-has_type l
