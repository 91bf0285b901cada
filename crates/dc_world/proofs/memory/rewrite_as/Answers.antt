use Rattle.dc_world.proofs.Changes.{changed-nothing}
use Rattle.dc_world.proofs.memory.rewrite_as.Goals as goal

pub returns-in-Dead : goal.returns-in-Dead
returns-in-Dead c = rw c.in-Dead.is (changed-nothing c.args.memory.now c.args.number)
