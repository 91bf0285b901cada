use Rattle.std.proofs.Common.{◌+◌, drop, sym, refl, ◌∙◌, arith}
use Rattle.dc_syntax.specs.Trees.{Parameters}
use Rattle.dc_syntax.specs.Reading as spec
use Rattle.dc_read_expr.proofs.Results.{taken, untaken, taken_less}
use Rattle.dc_read_expr.proofs.Commas.{walked_starts, walked_more, walked_none, walked_ends, within_more}
use Rattle.dc_read_expr.proofs.read.Grammar.more_parameters.Goals as goal

pub loop-scope-init : goal.loop-scope-init
loop-scope-init g c = walked_starts _ _ _ _ _ _ _ _ c.new.ensures c.within-scope.ensures c.requires.within

pub take_parameter-requires-clause-within : goal.take_parameter-requires-clause-within
take_parameter-requires-clause-within g c = within_more _ _ (sym c.has_more.ensures ∙ c.loop-scope-test.true)

pub loop-scope-preserved : goal.loop-scope-preserved
loop-scope-preserved g c =
    let f = c.args.self.now in
    let l = c.loop-scope.list in
    let env = c.loop-scope.scope.names in
    let one = spec.parameter (spec.reads f.budget) f.budget in
    walked_more one Parameters _ f.tokens.now c.args.at f.budget l.items l.height env l.at c.loop-scope.invariant (sym c.has_more.ensures ∙ c.loop-scope-test.true) l c.take_parameter.new.list c.take_parameter.new.scope.names refl refl
    (taken _ _ _ _ _ _ _ _ _ c.in_ok-take_parameter.ensures c.if-not-branch.false)

pub loop-scope-smaller : goal.loop-scope-smaller
loop-scope-smaller g c =
    let f = c.args.self.now in
    let l = c.loop-scope.list in
    let env = c.loop-scope.scope.names in
    let out = spec.parameter (spec.reads f.budget) f.budget env (drop (l.at + 1) f.tokens.now) in
    taken_less f.tokens.now (l.at + 1) f.budget l c.take_parameter.new.list env c.take_parameter.new.scope.names out (taken _ _ _ _ _ _ _ _ _ c.in_ok-take_parameter.ensures c.if-not-branch.false) (omega arith)

pub returns-then-not-branch : goal.returns-then-not-branch
returns-then-not-branch g c =
    let f = c.args.self.now in
    let l = c.loop-scope.list in
    let env = c.loop-scope.scope.names in
    let one = spec.parameter (spec.reads f.budget) f.budget in
    walked_none one Parameters _ f.tokens.now c.args.at f.budget l.items l.height env l.at c.loop-scope.invariant (sym c.has_more.ensures ∙ c.loop-scope-test.true)
    (untaken f.tokens.now (l.at + 1) f.budget l c.take_parameter.new.list env c.take_parameter.new.scope.names c.in_ok-take_parameter.field-0 (one env (drop (l.at + 1) f.tokens.now)) c.in_ok-take_parameter.ensures c.if-not-branch.true)

pub returns : goal.returns
returns g c =
    let f = c.args.self.now in
    let l = c.loop-scope.list in
    let one = spec.parameter (spec.reads f.budget) f.budget in
    walked_ends one Parameters _ f.tokens.now c.args.at f.budget l.items l.height c.loop-scope.scope.names l.at c.loop-scope.invariant (sym c.has_more.ensures ∙ c.loop-scope-test.false) l refl refl refl
