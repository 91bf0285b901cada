use Rattle.std.proofs.Common.{◌≡◌, take}
use Rattle.dc_syntax.proofs.+duplicate.Given as goal

abbrev pub invariant-duplicate::duplicates-loop-tree :
    goal.invariant-duplicate::duplicates-loop-tree
invariant-duplicate::duplicates-loop-tree l = l.copies ≡ take l.tree-index l.trees
