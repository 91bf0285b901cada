use Rattle.std.proofs.Common.{arith}
use Rattle.dc_memory.specs.Places.{start_of, object_of, offset_of}
use Rattle.dc_memory.proofs.laws.pointers_are_pairs.Goals as goal

pub returns : goal.returns
unfolding start_of object_of offset_of
returns c = record { object = λ object offset small. omega arith; offset = λ object offset small. omega arith }
