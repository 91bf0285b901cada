use Rattle.std.proofs.Common.{drop, Ok, ap, ◌∙◌}
use Rattle.dc_syntax.specs.Parts as parts
use Rattle.dc_syntax.specs.ReadingUnits as units
use Rattle.dc_syntax.specs.UnitView.{part_view}
use Rattle.dc_read_unit.proofs.Answered.{part_some}
use Rattle.dc_read_unit.proofs.clauses.Level.take_external.Goals as goal

pub returns : goal.returns
returns c =
    let f = c.args.self.now in
    let at = c.args.list.now.at in
    record {
      read = c.in-Some.external;
      is = part_some f.tokens.now at f.budget c.in-Some.external (units.reads_part f.budget units.ExternalOf c.args.scope.now.names (drop at f.tokens.now)) c.read_external.result c.read_external.ensures (c.in_ok-external.was ∙ ap Ok c.in-Some.is);
      pushed = c.in_ok-push_part.ensures;
      scope = c.in_ok-declare.ensures ∙ ap (λ p. parts.in_force_behind (part_view p) c.args.scope.now.names) c.get.ensures;
    }
