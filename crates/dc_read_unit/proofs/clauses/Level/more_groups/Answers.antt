use Rattle.std.proofs.Common.{◌+◌, drop, sym, refl, ◌∙◌}
use Rattle.dc_syntax.specs.declared.mark.Mark.TheVariants.{Semicolon}
use Rattle.dc_syntax.specs.Tokens.{Marked}
use Rattle.dc_syntax.specs.Reading as spec
use Rattle.dc_syntax.specs.ReadingUnits as units
use Rattle.dc_read_expr.proofs.Eating.{within_begins}
use Rattle.dc_read_unit.proofs.Answered.{part_taken, part_untaken}
use Rattle.dc_read_unit.proofs.ClauseLists.{groups_list, groups_listed}
use Rattle.dc_read_unit.proofs.Lists.{walked_starts, walked_more, walked_none, walked_ends, taken_declares}
use Rattle.dc_read_unit.proofs.clauses.Level.more_groups.Goals as goal

pub loop-list-init : goal.loop-list-init
loop-list-init c =
    let r = spec.reads c.args.self.now.budget in
    let tokens = c.args.self.now.tokens.now in
    walked_starts (groups_list r) tokens (groups_listed r tokens) c.args.at c.args.self.now.budget _ c.args.names.now.names c.args.names.now.names c.new.ensures refl refl refl c.requires.within

pub loop-list-preserved : goal.loop-list-preserved
loop-list-preserved c =
    let r = spec.reads c.args.self.now.budget in
    let tokens = c.args.self.now.tokens.now in
    let env = c.args.names.now.names in
    let old = c.loop-list.list in
    let new = c.take_group.new.list in
    let out = units.group r env (drop (old.at + 1) tokens) in
    walked_more (groups_list r) tokens (groups_listed r tokens) _ c.args.at c.args.self.now.budget old env new env c.loop-list.invariant (sym c.begins_semicolon.ensures ∙ c.loop-list-test.true)
    (taken_declares tokens (old.at + 1) c.args.self.now.budget old new env out
    (part_taken tokens (old.at + 1) c.args.self.now.budget old new c.in_ok-take_group.field-0 out c.in_ok-take_group.ensures c.if-not-branch.false))

pub returns-then-not-branch : goal.returns-then-not-branch
returns-then-not-branch c =
    let r = spec.reads c.args.self.now.budget in
    let tokens = c.args.self.now.tokens.now in
    let env = c.args.names.now.names in
    let old = c.loop-list.list in
    let is = sym c.begins_semicolon.ensures ∙ c.loop-list-test.true in
    walked_none (groups_list r) tokens (groups_listed r tokens) _ c.args.at c.args.self.now.budget old env c.loop-list.invariant is (within_begins (Marked Semicolon) tokens old.at is)
    (part_untaken tokens (old.at + 1) c.args.self.now.budget old c.take_group.new.list c.in_ok-take_group.field-0 (units.group r env (drop (old.at + 1) tokens)) c.in_ok-take_group.ensures c.if-not-branch.true)

pub returns : goal.returns
returns c =
    let r = spec.reads c.args.self.now.budget in
    let tokens = c.args.self.now.tokens.now in
    walked_ends (groups_list r) tokens (groups_listed r tokens) _ c.args.at c.args.self.now.budget c.loop-list.list c.args.names.now.names c.loop-list.invariant (sym c.begins_semicolon.ensures ∙ c.loop-list-test.false)
