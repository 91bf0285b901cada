use Rattle.std.proofs.Common.{Ok, ap, ◌∙◌}
use Rattle.dc_syntax.specs.Parts as parts
use Rattle.dc_syntax.specs.Reading as spec
use Rattle.dc_syntax.specs.ReadingUnits as units
use Rattle.dc_syntax.specs.UnitView.{part_view}
use Rattle.dc_read_unit.proofs.Answered.{part_from}
use Rattle.dc_read_unit.proofs.clauses.Level.take_declarator.Goals as goal

pub returns : goal.returns
returns c =
    let f = c.args.self.now in
    record {
      read = c.in-Some.declarator;
      is = part_from f.tokens.now _ c.behind-next.result f.budget c.in-Some.declarator (units.init_decl (spec.reads f.budget) (units.reads_part f.budget) c.args.scope.now.names c.args.is_type) c.init_declarator.result c.init_declarator.ensures c.behind-next.ensures (c.in_ok-declarator.was ∙ ap Ok c.in-Some.is);
      pushed = c.in_ok-push_part.ensures;
      scope = c.in_ok-declare_as.ensures ∙ ap (λ p. parts.declaring c.args.is_type (part_view p) c.args.scope.now.names) c.get.ensures;
    }
