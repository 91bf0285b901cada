use Rattle.std.proofs.Common.{arith, refl}
use Rattle.dc_run.proofs.Places.{store-beyond}
use Rattle.dc_run.proofs.value.store_int.Goals as goal

pub returns-then-place : goal.returns-then-place
returns-then-place c = (store-beyond c.args.memory.now c.args.place c.args.value c.requires (omega (arith, c.if-place.true)), refl)
