use Rattle.std.proofs.Common.{◌≡◌, ◌+◌, ◌-◌, ◌∙◌, ap, length, arith}
use Rattle.dc_memory.proofs.Puts.{put-seen}
use Rattle.dc_memory.proofs.bytes.Bytes.put.Goals as goal

pub returns : goal.returns
returns c =
    let same = c.deref_mut.ensures.value ∙ c.self.view_is in
    let few : c.args.from + length c.args.values.now - c.args.from ≡ length c.args.values.now = omega arith in
    let size = c.self.inside.bytes.ok.0 ∙ ap length c.self.view_is in
    put-seen c.self.inside.bytes.len c.args.from (c.args.from + length c.args.values.now - c.args.from) c.self.inside.bytes.items c.deref_mut.result.now c.args.self.now c.copy_from_slice.new.self c.args.values.now
    size same c.self.view_is few c.copy_from_slice.ensures.after c.requires
