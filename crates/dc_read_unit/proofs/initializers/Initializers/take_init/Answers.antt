use Rattle.std.proofs.Common.{Ok, ap, ◌∙◌}
use Rattle.dc_syntax.specs.Reading as spec
use Rattle.dc_syntax.specs.ReadingUnits as units
use Rattle.dc_read_unit.proofs.Answered.{part_from}
use Rattle.dc_read_unit.proofs.initializers.Initializers.take_init.Goals as goal

pub returns : goal.returns
returns g c =
    let f = c.args.self.now in
    record {
      read = c.in-Some.init;
      is = part_from f.tokens.now _ c.behind.result f.budget c.in-Some.init (units.init (spec.reads f.budget) (units.reads_part f.budget) c.args.names.now.names) c.init.result c.init.ensures c.behind.ensures (c.in_ok-init.was ∙ ap Ok c.in-Some.is);
      pushed = c.in_ok-push_part.ensures;
    }
