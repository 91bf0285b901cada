use Rattle.std.proofs.Common.{◌+◌, Ok, drop, ap, ◌∙◌}
use Rattle.dc_syntax.specs.declared.mark.Mark.TheVariants.{LeftParen}
use Rattle.dc_syntax.specs.declared.token.Word.TheVariants as word
use Rattle.dc_syntax.specs.Parts.{in_force_behind}
use Rattle.dc_syntax.specs.Reading as spec
use Rattle.dc_syntax.specs.ReadingUnits as units
use Rattle.dc_syntax.specs.UnitView.{part_view}
use Rattle.dc_read_expr.proofs.Tags.{next_of}
use Rattle.dc_read_unit.specs.StatementParts.{closed_first}
use Rattle.dc_read_unit.proofs.Answered.{part_some, parting_by}
use Rattle.dc_read_unit.proofs.Steps.{for_is}
use Rattle.dc_read_unit.proofs.statements.Statements.for_loop.Goals as goal

pub returns : goal.returns
returns g c =
    let f = c.args.self.now in
    let ts = f.tokens.now in
    let env = c.args.names.now.names in
    let r = spec.reads f.budget in
    let q = units.reads_part f.budget in
    let a = part_some ts (c.args.at + 1 + 1) f.budget c.in-Some.first (closed_first r q env (drop (c.args.at + 1 + 1) ts)) c.first.result c.first.ensures (c.in_ok-first.was ∙ ap Ok c.in-Some.is) in
    let n = next_of ts (c.args.at + 1) c.word.result (word.Marked LeftParen) c.word.ensures (cc) in
    parting_by _ _ _ _ _ _ c.for_condition.ensures
    (for_is r q env c.declare.new.names.names (drop c.args.at ts) ts (c.args.at + 1) (part_view c.in-Some.first.part) (drop c.in-Some.first.at ts) n a.found
    (c.in_ok-declare.ensures ∙ (ap (λ t. in_force_behind (part_view t) c.within-scope.result.names) c.get.ensures ∙ ap (in_force_behind (part_view c.in-Some.first.part)) c.within-scope.ensures)))
