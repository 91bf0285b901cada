use Rattle.std.proofs.Common.{◌≡◌, map, reverse, vec_len}
use Rattle.dc_core.specs.Event.{Kill}
use Rattle.dc_core.specs.Objects.{kill_all}
use Rattle.dc_core.specs.Run.{Did}
use Rattle.dc_goto.specs.Acts.{newer, older}
use Rattle.dc_world.specs.Log.{hearing}
use Rattle.dc_world.specs.Told.{told}
use Rattle.dc_machine.proofs.now.Now.kill_newer.Given as goal

abbrev pub decreases-loop-object : goal.decreases-loop-object
decreases-loop-object g l = vec_len l.self.locals

abbrev pub invariant-loop-object : goal.invariant-loop-object
invariant-loop-object g l = record {
  memory : kill_all (newer l.fn.first (reverse l.self.locals.items)) l.self.memory ≡ kill_all (newer l.fn.first (reverse l.initial.self.locals.items)) l.initial.self.memory;
  heard :
      told (map (λ object. Did (Kill object)) (newer l.fn.first (reverse l.self.locals.items))) (hearing (g.W.Watch.records l.watch) (g.W.Watch.parts l.watch) l.log)
      ≡ told (map (λ object. Did (Kill object)) (newer l.fn.first (reverse l.initial.self.locals.items))) (hearing (g.W.Watch.records l.initial.watch) (g.W.Watch.parts l.initial.watch) l.initial.log);
  kept : older l.fn.first (reverse l.self.locals.items) ≡ older l.fn.first (reverse l.initial.self.locals.items);
  regs : l.self.regs ≡ l.initial.self.regs;
  sets : l.self.sets ≡ l.initial.self.sets;
  seen : l.self.seen ≡ l.initial.self.seen;
}
