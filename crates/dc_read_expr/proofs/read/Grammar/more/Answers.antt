use Rattle.std.proofs.Common.{◌+◌, drop, sym, refl, ◌∙◌, arith}
use Rattle.dc_syntax.specs.Reading as spec
use Rattle.dc_read_expr.specs.View.{item_view, one_of}
use Rattle.dc_read_expr.proofs.Results.{taken, untaken, taken_less}
use Rattle.dc_read_expr.proofs.Commas.{walked_starts, walked_more, walked_none, walked_ends, within_more}
use Rattle.dc_read_expr.proofs.read.Grammar.more.Goals as goal

pub loop-item-init : goal.loop-item-init
loop-item-init g c = walked_starts _ _ _ _ _ _ _ _ c.new.ensures c.within-scope.ensures c.requires.within

pub take_one-requires-clause-within : goal.take_one-requires-clause-within
take_one-requires-clause-within g c = within_more _ _ (sym c.has_more.ensures ∙ c.loop-item-test.true)

pub loop-item-preserved : goal.loop-item-preserved
loop-item-preserved g c =
    let f = c.args.self.now in
    let l = c.loop-item.list in
    let env = c.loop-item.scope.names in
    let one = one_of (spec.reads f.budget) f.budget (item_view c.args.item) in
    walked_more one (item_view c.args.item) _ f.tokens.now c.args.at f.budget l.items l.height env l.at c.loop-item.invariant (sym c.has_more.ensures ∙ c.loop-item-test.true) l c.take_one.new.list c.take_one.new.scope.names refl refl
    (taken _ _ _ _ _ _ _ _ _ c.in_ok-take_one.ensures c.if-not-branch.false)

pub loop-item-smaller : goal.loop-item-smaller
loop-item-smaller g c =
    let f = c.args.self.now in
    let l = c.loop-item.list in
    let env = c.loop-item.scope.names in
    let out = one_of (spec.reads f.budget) f.budget (item_view c.args.item) env (drop (l.at + 1) f.tokens.now) in
    taken_less f.tokens.now (l.at + 1) f.budget l c.take_one.new.list env c.take_one.new.scope.names out (taken _ _ _ _ _ _ _ _ _ c.in_ok-take_one.ensures c.if-not-branch.false) (omega arith)

pub returns-then-not-branch : goal.returns-then-not-branch
returns-then-not-branch g c =
    let f = c.args.self.now in
    let l = c.loop-item.list in
    let env = c.loop-item.scope.names in
    let one = one_of (spec.reads f.budget) f.budget (item_view c.args.item) in
    walked_none one (item_view c.args.item) _ f.tokens.now c.args.at f.budget l.items l.height env l.at c.loop-item.invariant (sym c.has_more.ensures ∙ c.loop-item-test.true)
    (untaken f.tokens.now (l.at + 1) f.budget l c.take_one.new.list env c.take_one.new.scope.names c.in_ok-take_one.field-0 (one env (drop (l.at + 1) f.tokens.now)) c.in_ok-take_one.ensures c.if-not-branch.true)

pub returns : goal.returns
returns g c =
    let f = c.args.self.now in
    let l = c.loop-item.list in
    let one = one_of (spec.reads f.budget) f.budget (item_view c.args.item) in
    walked_ends one (item_view c.args.item) _ f.tokens.now c.args.at f.budget l.items l.height c.loop-item.scope.names l.at c.loop-item.invariant (sym c.has_more.ensures ∙ c.loop-item-test.false) l refl refl refl
