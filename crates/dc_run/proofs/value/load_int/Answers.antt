use Rattle.std.proofs.Common.{arith}
use Rattle.dc_run.proofs.Places.{load-beyond}
use Rattle.dc_run.proofs.value.load_int.Goals as goal

pub returns-then-place : goal.returns-then-place
returns-then-place c = load-beyond c.args.memory.now c.args.place c.requires (omega (arith, c.if-place.true))
