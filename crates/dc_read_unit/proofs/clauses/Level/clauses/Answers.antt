use Rattle.std.proofs.Common.{drop, sym, refl, ◌∙◌}
use Rattle.dc_syntax.specs.ReadingUnits as units
use Rattle.dc_read_unit.proofs.Answered.{part_taken, part_untaken}
use Rattle.dc_read_unit.proofs.ClauseLists.{clauses_list, clauses_listed, clause_within}
use Rattle.dc_read_unit.proofs.Lists.{walked_starts, walked_more, walked_none, walked_ends, taken_declares}
use Rattle.dc_read_unit.proofs.clauses.Level.clauses.Goals as goal

pub loop-list-init : goal.loop-list-init
loop-list-init c =
    let q = units.reads_part c.args.self.now.budget in
    let tokens = c.args.self.now.tokens.now in
    walked_starts (clauses_list q) tokens (clauses_listed q tokens) c.args.at c.args.self.now.budget _ c.args.names.now.names c.args.names.now.names c.new.ensures refl refl refl c.requires.within

pub loop-list-preserved : goal.loop-list-preserved
loop-list-preserved c =
    let q = units.reads_part c.args.self.now.budget in
    let tokens = c.args.self.now.tokens.now in
    let env = c.args.names.now.names in
    let old = c.loop-list.list in
    let new = c.take_clause.new.list in
    let out = q units.ClauseOf env (drop old.at tokens) in
    walked_more (clauses_list q) tokens (clauses_listed q tokens) _ c.args.at c.args.self.now.budget old env new env c.loop-list.invariant (sym c.begins_clause.ensures ∙ c.loop-list-test.true)
    (taken_declares tokens old.at c.args.self.now.budget old new env out
    (part_taken tokens old.at c.args.self.now.budget old new c.in_ok-take_clause.field-0 out c.in_ok-take_clause.ensures c.if-not-branch.false))

pub returns-then-not-branch : goal.returns-then-not-branch
returns-then-not-branch c =
    let q = units.reads_part c.args.self.now.budget in
    let tokens = c.args.self.now.tokens.now in
    let env = c.args.names.now.names in
    let old = c.loop-list.list in
    let is = sym c.begins_clause.ensures ∙ c.loop-list-test.true in
    walked_none (clauses_list q) tokens (clauses_listed q tokens) _ c.args.at c.args.self.now.budget old env c.loop-list.invariant is (clause_within tokens old.at is)
    (part_untaken tokens old.at c.args.self.now.budget old c.take_clause.new.list c.in_ok-take_clause.field-0 (q units.ClauseOf env (drop old.at tokens)) c.in_ok-take_clause.ensures c.if-not-branch.true)

pub returns : goal.returns
returns c =
    let q = units.reads_part c.args.self.now.budget in
    let tokens = c.args.self.now.tokens.now in
    walked_ends (clauses_list q) tokens (clauses_listed q tokens) _ c.args.at c.args.self.now.budget c.loop-list.list c.args.names.now.names c.loop-list.invariant (sym c.begins_clause.ensures ∙ c.loop-list-test.false)
