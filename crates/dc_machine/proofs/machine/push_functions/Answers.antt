use Rattle.dc_machine.proofs.Acts.{objects-more}
use Rattle.dc_machine.proofs.machine.push_functions.Goals as goal

pub loop-at-preserved : goal.loop-at-preserved
loop-at-preserved c =
    objects-more c.loop-at.memory c.add_function.new.memory c.loop-at._at c.args.memory.now c.loop-at.invariant c.in_ok-add_function.ensures.ok
