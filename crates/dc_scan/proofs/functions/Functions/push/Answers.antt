use Rattle.std.proofs.Common.{ap, ◌∙◌}
use Rattle.std.specs.List.{list_any}
use Rattle.dc_text.specs.Words.{same}
use Rattle.dc_scan.proofs.Placed.{unknown}
use Rattle.dc_scan.proofs.functions.Functions.push.Goals as goal

pub push-requires : goal.push-requires
push-requires c =
    ap (λ name. list_any (same name) c.self.inside.names) c.as_slice.ensures
    ∙ unknown c.args.sig.now.name c.self.inside.sigs.items c.self.inside.names c.args.self.now c.self.invariant c.self.view_is c.requires
