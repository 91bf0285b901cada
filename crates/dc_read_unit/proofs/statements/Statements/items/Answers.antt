use Rattle.std.proofs.Common.{drop, ap, not, sym, refl, ◌∙◌}
use Rattle.dc_syntax.specs.declared.mark.Mark.TheVariants.{RightBrace}
use Rattle.dc_syntax.specs.Tokens.{Marked}
use Rattle.dc_syntax.specs.Parts as parts
use Rattle.dc_syntax.specs.ReadingUnits as units
use Rattle.dc_read_expr.proofs.Eating.{within_begins}
use Rattle.dc_read_unit.specs.StatementParts.{item}
use Rattle.dc_read_unit.proofs.Answered.{part_declared, part_undeclared}
use Rattle.dc_read_unit.proofs.UnitLists.{items_list, items_listed, items_none, items_closed}
use Rattle.dc_read_unit.proofs.Lists.{walked_starts, walked_more, walked_ends}
use Rattle.dc_read_unit.proofs.statements.Statements.items.Goals as goal

pub loop-scope-init : goal.loop-scope-init
loop-scope-init g c =
    let f = c.args.self.now in
    let q = units.reads_part f.budget in
    walked_starts (items_list q) f.tokens.now (items_listed q f.tokens.now) c.args.at f.budget _ _ c.args.names.now.names c.new.ensures refl refl c.within-scope.ensures c.requires.within

pub loop-scope-preserved : goal.loop-scope-preserved
loop-scope-preserved g c =
    let f = c.args.self.now in
    let q = units.reads_part f.budget in
    let tokens = f.tokens.now in
    let env = c.loop-scope.scope.names in
    let env' = c.take_item.new.scope.names in
    let old = c.loop-scope.list in
    let new = c.take_item.new.list in
    walked_more (items_list q) tokens (items_listed q tokens) _ c.args.at f.budget old env new env' c.loop-scope.invariant (ap not (sym c.closes_body.ensures ∙ c.loop-scope-test.true))
    (part_declared tokens old.at f.budget old new env' (λ a. parts.in_force_behind a env) c.in_ok-take_item.field-0 (item q env (drop old.at tokens)) c.in_ok-take_item.ensures c.if-not-branch.false)

pub returns-then-not-branch : goal.returns-then-not-branch
returns-then-not-branch g c =
    let f = c.args.self.now in
    let q = units.reads_part f.budget in
    let tokens = f.tokens.now in
    let env = c.loop-scope.scope.names in
    let old = c.loop-scope.list in
    items_none q tokens _ c.args.at f.budget old env c.loop-scope.invariant (sym c.closes_body.ensures ∙ c.loop-scope-test.true)
    (part_undeclared tokens old.at f.budget old c.take_item.new.list c.take_item.new.scope.names (λ a. parts.in_force_behind a env) c.in_ok-take_item.field-0 (item q env (drop old.at tokens)) c.in_ok-take_item.ensures c.if-not-branch.true)

pub behind-requires : goal.behind-requires
behind-requires g c = record { within = within_begins (Marked RightBrace) _ _ (sym c.closes_body.ensures ∙ c.loop-scope-test.false) }

pub returns : goal.returns
returns g c =
    let f = c.args.self.now in
    let q = units.reads_part f.budget in
    let tokens = f.tokens.now in
    let old = c.loop-scope.list in
    let is = sym c.closes_body.ensures ∙ c.loop-scope-test.false in
    items_closed tokens _ c.args.at f.budget old _ (walked_ends (items_list q) tokens (items_listed q tokens) _ c.args.at f.budget old c.loop-scope.scope.names c.loop-scope.invariant (ap not is)) is refl refl c.behind.ensures
