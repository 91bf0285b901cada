use Rattle.std.proofs.Common.{arith}
use Rattle.dc_world.specs.Sets.{set_view}
use Rattle.dc_run.proofs.Places.{added-beyond}
use Rattle.dc_run.proofs.clause.add_target.Goals as goal

pub returns-then-place : goal.returns-then-place
returns-then-place c =
    added-beyond c.args.memory.now c.args.tag c.in-Some.place c.args.place (set_view c.args.set.now) c.requires (omega (arith, c.if-place.true)) c.in-Some.is
