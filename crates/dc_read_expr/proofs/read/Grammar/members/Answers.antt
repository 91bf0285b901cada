use Rattle.std.proofs.Common.{drop, sym, refl, ◌∙◌, arith}
use Rattle.dc_syntax.specs.Reading as spec
use Rattle.dc_read_expr.proofs.Results.{taken, untaken, taken_less}
use Rattle.dc_read_expr.proofs.Gathering.{gathered_starts, gathered_more, gathered_none, gathered_ends, within_close}
use Rattle.dc_read_expr.proofs.read.Grammar.members.Goals as goal

pub loop-scope-init : goal.loop-scope-init
loop-scope-init g c = gathered_starts _ _ _ _ _ _ _ c.new.ensures c.within-scope.ensures c.requires.within

pub take_member-requires-clause-within : goal.take_member-requires-clause-within
take_member-requires-clause-within g c = c.loop-scope.invariant.within

pub loop-scope-preserved : goal.loop-scope-preserved
loop-scope-preserved g c =
    let f = c.args.self.now in
    let l = c.loop-scope.list in
    gathered_more (spec.reads f.budget) _ f.tokens.now c.args.at f.budget l.items l.height c.loop-scope.scope.names l.at c.loop-scope.invariant (sym c.closes_body.ensures ∙ c.loop-scope-test.true) l c.take_member.new.list c.take_member.new.scope.names refl refl
    (taken _ _ _ _ _ _ _ _ _ c.in_ok-take_member.ensures c.if-not-branch.false)

pub loop-scope-smaller : goal.loop-scope-smaller
loop-scope-smaller g c =
    let f = c.args.self.now in
    let l = c.loop-scope.list in
    let env = c.loop-scope.scope.names in
    taken_less f.tokens.now l.at f.budget l c.take_member.new.list env c.take_member.new.scope.names (spec.reads f.budget spec.MemberOf env (drop l.at f.tokens.now)) (taken _ _ _ _ _ _ _ _ _ c.in_ok-take_member.ensures c.if-not-branch.false) (omega arith)

pub returns-then-not-branch : goal.returns-then-not-branch
returns-then-not-branch g c =
    let f = c.args.self.now in
    let l = c.loop-scope.list in
    let env = c.loop-scope.scope.names in
    gathered_none (spec.reads f.budget) _ f.tokens.now c.args.at f.budget l.items l.height env l.at c.loop-scope.invariant (sym c.closes_body.ensures ∙ c.loop-scope-test.true)
    (untaken f.tokens.now l.at f.budget l c.take_member.new.list env c.take_member.new.scope.names c.in_ok-take_member.field-0 (spec.reads f.budget spec.MemberOf env (drop l.at f.tokens.now)) c.in_ok-take_member.ensures c.if-not-branch.true)

pub behind-requires : goal.behind-requires
behind-requires g c = record { within = within_close _ _ (sym c.closes_body.ensures ∙ c.loop-scope-test.false) }

pub returns : goal.returns
returns g c =
    let f = c.args.self.now in
    let l = c.loop-scope.list in
    gathered_ends (spec.reads f.budget) _ f.tokens.now c.args.at f.budget l.items l.height c.loop-scope.scope.names l.at c.loop-scope.invariant (sym c.closes_body.ensures ∙ c.loop-scope-test.false) _ refl refl c.behind.ensures
