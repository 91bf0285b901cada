use Rattle.std.proofs.Common.{pos, ◌*ℤ◌, ◌∙◌, rules}
use Rattle.dc_value.proofs.Moves.{moved-inside}
use Rattle.dc_value.proofs.pointers.moved.Goals as goal

pub returns : goal.returns
returns c =
    let known = moved-inside c.args.memory.now c.args.pointer c.size_of_target-room.result (c.args.count *ℤ pos c.args.size) c.in_ok-place.place (search rules) c.size_of_target-room.ensures.value (search rules) (search rules) (search rules) in
    (search rules) ∙ known
