use Rattle.std.proofs.Common.{◌≡◌, ◌-◌, suc, arith}
use Rattle.dc_memory.specs.Objects.{killed}
use Rattle.dc_memory.proofs.Objects.{set-changed, live-there}
use Rattle.dc_memory.proofs.store.Store.kill.Goals as goal

pub returns : goal.returns
returns c =
    let there = live-there c.args.self.now c.args.object c.requires.live in
    let n : c.args.object ≡ suc (c.args.object - 1) = omega (arith, there.0) in
    set-changed killed c.args.self.now c.self.inside.objects.items c.args.object (c.args.object - 1) c.kill.new.self c.index_mut.result.now
    c.self.view_is n there.1 c.index_mut.ensures.value c.kill.ensures
