use Rattle.std.proofs.Common.{length, ap}
use Rattle.dc_run.proofs.Entries.{sizes_made}
use Rattle.dc_run.proofs.entry.sizes.Goals as goal

pub returns : goal.returns
returns c =
    sizes_made c.in_ok-sizes.sizes.items (length c.statics-statics.result.now) c.args.p.now.1.0 (c.in_ok-sizes.ensures.items_if_clones_equal (λ y e. e)) (ap length c.statics-statics.ensures)
