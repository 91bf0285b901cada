use Rattle.std.proofs.Common.{◌≡◌, ◌+◌, ◌-◌, arith}
use Rattle.dc_memory.proofs.Puts.{put-copied}
use Rattle.dc_memory.proofs.bytes.Bytes.copy_within.Goals as goal

pub returns : goal.returns
returns c =
    let few : c.args.from + c.args.len - c.args.from ≡ c.args.len = omega arith in
    put-copied c.args.to c.args.from c.args.len (c.args.from + c.args.len - c.args.from) c.copy_within.new.self.items c.self.inside.bytes.items c.args.self.now
    c.self.view_is few c.copy_within.ensures.items c.requires.source c.requires.target
