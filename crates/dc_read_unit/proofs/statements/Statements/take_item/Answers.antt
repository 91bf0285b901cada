use Rattle.std.proofs.Common.{drop, Ok, ap, ◌∙◌}
use Rattle.dc_syntax.specs.Parts as parts
use Rattle.dc_syntax.specs.ReadingUnits as units
use Rattle.dc_syntax.specs.UnitView.{part_view}
use Rattle.dc_read_unit.specs.StatementParts.{item}
use Rattle.dc_read_unit.proofs.Answered.{part_some}
use Rattle.dc_read_unit.proofs.statements.Statements.take_item.Goals as goal

pub returns : goal.returns
returns g c =
    let f = c.args.self.now in
    let at = c.args.list.now.at in
    record {
      read = c.in-Some.item;
      is = part_some f.tokens.now at f.budget c.in-Some.item (item (units.reads_part f.budget) c.args.scope.now.names (drop at f.tokens.now)) c.item.result c.item.ensures (c.in_ok-item.was ∙ ap Ok c.in-Some.is);
      pushed = c.in_ok-push_part.ensures;
      scope = c.in_ok-declare.ensures ∙ ap (λ p. parts.in_force_behind (part_view p) c.args.scope.now.names) c.get.ensures;
    }
