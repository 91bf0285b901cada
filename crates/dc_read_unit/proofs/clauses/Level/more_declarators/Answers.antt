use Rattle.std.proofs.Common.{◌+◌, drop, sym, refl, ◌∙◌}
use Rattle.dc_syntax.specs.declared.mark.Mark.TheVariants.{Comma}
use Rattle.dc_syntax.specs.Tokens.{Marked}
use Rattle.dc_syntax.specs.Parts as parts
use Rattle.dc_syntax.specs.Reading as spec
use Rattle.dc_syntax.specs.ReadingUnits as units
use Rattle.dc_read_expr.proofs.Eating.{within_begins}
use Rattle.dc_read_unit.proofs.Answered.{part_declared, part_undeclared}
use Rattle.dc_read_unit.proofs.UnitLists.{declared_list, declared_listed}
use Rattle.dc_read_unit.proofs.Lists.{walked_starts, walked_more, walked_none, walked_ends}
use Rattle.dc_read_unit.proofs.clauses.Level.more_declarators.Goals as goal

pub loop-scope-init : goal.loop-scope-init
loop-scope-init c =
    let f = c.args.self.now in
    let r = spec.reads f.budget in
    let q = units.reads_part f.budget in
    walked_starts (declared_list r q c.args.is_type) f.tokens.now (declared_listed r q c.args.is_type f.tokens.now) c.args.at f.budget _ _ c.args.names.now.names c.new.ensures refl refl c.within-scope.ensures c.requires.within

pub loop-scope-preserved : goal.loop-scope-preserved
loop-scope-preserved c =
    let f = c.args.self.now in
    let r = spec.reads f.budget in
    let q = units.reads_part f.budget in
    let tokens = f.tokens.now in
    let t = c.args.is_type in
    let env = c.loop-scope.scope.names in
    let env' = c.take_declarator.new.scope.names in
    let old = c.loop-scope.list in
    let new = c.take_declarator.new.list in
    walked_more (declared_list r q t) tokens (declared_listed r q t tokens) _ c.args.at f.budget old env new env' c.loop-scope.invariant (sym c.begins_comma.ensures ∙ c.loop-scope-test.true)
    (part_declared tokens (old.at + 1) f.budget old new env' (λ a. parts.declaring t a env) c.in_ok-take_declarator.field-0 (units.init_decl r q env t (drop (old.at + 1) tokens)) c.in_ok-take_declarator.ensures c.if-not-branch.false)

pub returns-then-not-branch : goal.returns-then-not-branch
returns-then-not-branch c =
    let f = c.args.self.now in
    let r = spec.reads f.budget in
    let q = units.reads_part f.budget in
    let tokens = f.tokens.now in
    let t = c.args.is_type in
    let env = c.loop-scope.scope.names in
    let old = c.loop-scope.list in
    let is = sym c.begins_comma.ensures ∙ c.loop-scope-test.true in
    walked_none (declared_list r q t) tokens (declared_listed r q t tokens) _ c.args.at f.budget old env c.loop-scope.invariant is (within_begins (Marked Comma) tokens old.at is)
    (part_undeclared tokens (old.at + 1) f.budget old c.take_declarator.new.list c.take_declarator.new.scope.names (λ a. parts.declaring t a env) c.in_ok-take_declarator.field-0 (units.init_decl r q env t (drop (old.at + 1) tokens)) c.in_ok-take_declarator.ensures c.if-not-branch.true)

pub returns : goal.returns
returns c =
    let f = c.args.self.now in
    let r = spec.reads f.budget in
    let q = units.reads_part f.budget in
    walked_ends (declared_list r q c.args.is_type) f.tokens.now (declared_listed r q c.args.is_type f.tokens.now) _ c.args.at f.budget c.loop-scope.list c.loop-scope.scope.names c.loop-scope.invariant (sym c.begins_comma.ensures ∙ c.loop-scope-test.false)
