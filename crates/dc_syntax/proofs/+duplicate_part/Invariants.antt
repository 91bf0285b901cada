use Rattle.std.proofs.Common.{◌≡◌, take}
use Rattle.dc_syntax.proofs.+duplicate_part.Given as goal

abbrev pub invariant-duplicate::duplicate_parts-loop-part :
    goal.invariant-duplicate::duplicate_parts-loop-part
invariant-duplicate::duplicate_parts-loop-part l = l.copies ≡ take l.part-index l.parts
