use Rattle.std.proofs.Common.{drop, Ok, ap, ◌∙◌}
use Rattle.dc_syntax.specs.ReadingUnits as units
use Rattle.dc_read_unit.proofs.Answered.{part_some}
use Rattle.dc_read_unit.proofs.clauses.Level.take_clause.Goals as goal

pub returns : goal.returns
returns c =
    let f = c.args.self.now in
    let at = c.args.list.now.at in
    record {
      read = c.in-Some.clause;
      is = part_some f.tokens.now at f.budget c.in-Some.clause (units.reads_part f.budget units.ClauseOf c.args.names.now.names (drop at f.tokens.now)) c.read_clause.result c.read_clause.ensures (c.in_ok-clause.was ∙ ap Ok c.in-Some.is);
      pushed = c.in_ok-push_part.ensures;
    }
