use Rattle.dc_typing.proofs.lists.ParameterNames.+find.Given as goal

abbrev pub decreases-find : goal.decreases-find
decreases-find l = goal.size-find l
