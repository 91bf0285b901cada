use Rattle.std.proofs.Common.{Ok, ap, ◌∙◌}
use Rattle.dc_syntax.specs.Reading as spec
use Rattle.dc_syntax.specs.ReadingUnits as units
use Rattle.dc_read_unit.proofs.Answered.{part_from}
use Rattle.dc_read_unit.proofs.clauses.Level.take_group.Goals as goal

pub returns : goal.returns
returns c =
    let f = c.args.self.now in
    record {
      read = c.in-Some.group;
      is = part_from f.tokens.now _ c.behind.result f.budget c.in-Some.group (units.group (spec.reads f.budget) c.args.names.now.names) c.group.result c.group.ensures c.behind.ensures (c.in_ok-group.was ∙ ap Ok c.in-Some.is);
      pushed = c.in_ok-push_part.ensures;
    }
