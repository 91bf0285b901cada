use Rattle.std.proofs.Common.{drop, refl}
use Rattle.dc_syntax.specs.Parts as parts
use Rattle.dc_syntax.specs.ReadingUnits as units
use Rattle.dc_read_unit.proofs.Answered.{part_declared, part_undeclared}
use Rattle.dc_read_unit.proofs.UnitLists.{externals_list, externals_listed, some_there, none_there}
use Rattle.dc_read_unit.proofs.Lists.{walked_starts, walked_more, walked_none, walked_ends}
use Rattle.dc_read_unit.proofs.clauses.Level.externals.Goals as goal

pub loop-list-init : goal.loop-list-init
loop-list-init c =
    let f = c.args.self.now in
    let q = units.reads_part f.budget in
    walked_starts (externals_list q) f.tokens.now (externals_listed q f.tokens.now) c.args.at f.budget _ _ c.args.names.now.names c.new.ensures refl refl c.within-scope.ensures c.requires.within

pub loop-list-preserved : goal.loop-list-preserved
loop-list-preserved c =
    let f = c.args.self.now in
    let q = units.reads_part f.budget in
    let tokens = f.tokens.now in
    let env = c.loop-list.scope.names in
    let env' = c.take_external.new.scope.names in
    let old = c.loop-list.list in
    let new = c.take_external.new.list in
    walked_more (externals_list q) tokens (externals_listed q tokens) _ c.args.at f.budget old env new env' c.loop-list.invariant (some_there tokens old.at c.loop-list-test.true)
    (part_declared tokens old.at f.budget old new env' (λ a. parts.in_force_behind a env) c.in_ok-take_external.field-0 (q units.ExternalOf env (drop old.at tokens)) c.in_ok-take_external.ensures c.if-not-branch.false)

pub returns-then-not-branch : goal.returns-then-not-branch
returns-then-not-branch c =
    let f = c.args.self.now in
    let q = units.reads_part f.budget in
    let tokens = f.tokens.now in
    let env = c.loop-list.scope.names in
    let old = c.loop-list.list in
    walked_none (externals_list q) tokens (externals_listed q tokens) _ c.args.at f.budget old env c.loop-list.invariant (some_there tokens old.at c.loop-list-test.true) c.loop-list-test.true
    (part_undeclared tokens old.at f.budget old c.take_external.new.list c.take_external.new.scope.names (λ a. parts.in_force_behind a env) c.in_ok-take_external.field-0 (q units.ExternalOf env (drop old.at tokens)) c.in_ok-take_external.ensures c.if-not-branch.true)

pub returns : goal.returns
returns c =
    let f = c.args.self.now in
    let q = units.reads_part f.budget in
    let old = c.loop-list.list in
    walked_ends (externals_list q) f.tokens.now (externals_listed q f.tokens.now) _ c.args.at f.budget old c.loop-list.scope.names c.loop-list.invariant (none_there f.tokens.now old.at c.loop-list-test.false)
