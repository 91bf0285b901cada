use Rattle.std.proofs.Common.{◌≡◌, ◌+◌, ◌-◌, ◌∙◌, ap, sym, length, arith}
use Rattle.std.specs.Prelude.{replicate}
use Rattle.std.proofs.lemmas.List.{length-replicate}
use Rattle.dc_memory.proofs.Puts.{put-seen, length-part}
use Rattle.dc_memory.proofs.bytes.Bytes.fill.Goals as goal

pub returns : goal.returns
returns c =
    let same = c.deref_mut.ensures.value ∙ c.self.view_is in
    let few : c.args.from + c.args.len - c.args.from ≡ c.args.len = omega arith in
    let count : length (replicate c.args.len c.args.byte) ≡ c.args.len = length-replicate c.args.len c.args.byte in
    let size = c.self.inside.bytes.ok.0 ∙ ap length c.self.view_is in
    let there = length-part c.args.from c.args.len (c.args.from + c.args.len - c.args.from) c.deref_mut.result.now c.args.self.now same few c.requires in
    put-seen c.self.inside.bytes.len c.args.from (c.args.from + c.args.len - c.args.from) c.self.inside.bytes.items c.deref_mut.result.now c.args.self.now c.fill.new.self (replicate c.args.len c.args.byte)
    size same c.self.view_is (few ∙ sym count) (c.fill.ensures.after (λ y e. e) ∙ ap (λ n. replicate n c.args.byte) there) (omega (arith, count, c.requires))
