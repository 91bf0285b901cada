use Rattle.std.proofs.Common.{drop, sym, ◌∙◌}
use Rattle.dc_syntax.specs.Reading as spec
use Rattle.dc_read_expr.proofs.Results.{spec_taken, spec_untaken, spec_taken_less}
use Rattle.dc_read_expr.proofs.Runs.{running_starts, running_more, running_ends, running_none}
use Rattle.dc_read_expr.proofs.read.Grammar.specs.Goals as goal

pub loop-run-init : goal.loop-run-init
loop-run-init g c = running_starts _ _ _ _ _ _ _ c.new.ensures c.within-scope.ensures

pub loop-run-preserved : goal.loop-run-preserved
loop-run-preserved g c =
    let f = c.args.self.now in
    let l = c.loop-run.run in
    let env = c.loop-run.scope.names in
    running_more (spec.reads f.budget) f.budget _ f.tokens.now c.args.at l env c.loop-run.invariant c.take_spec.new.run c.take_spec.new.scope.names
    (spec_taken f.tokens.now f.budget l c.take_spec.new.run env c.take_spec.new.scope.names c.in_ok-take_spec.field-0 (spec.spec (spec.reads f.budget) f.budget env l.has_type (drop l.at f.tokens.now)) c.in_ok-take_spec.ensures c.if-not-branch.false)
    (sym c.takes.ensures ∙ c.if-not-takes.false)

pub loop-run-smaller : goal.loop-run-smaller
loop-run-smaller g c =
    let f = c.args.self.now in
    let l = c.loop-run.run in
    let env = c.loop-run.scope.names in
    spec_taken_less f.tokens.now f.budget l c.take_spec.new.run env c.take_spec.new.scope.names (spec.spec (spec.reads f.budget) f.budget env l.has_type (drop l.at f.tokens.now))
    (spec_taken f.tokens.now f.budget l c.take_spec.new.run env c.take_spec.new.scope.names c.in_ok-take_spec.field-0 (spec.spec (spec.reads f.budget) f.budget env l.has_type (drop l.at f.tokens.now)) c.in_ok-take_spec.ensures c.if-not-branch.false)

pub returns-then-not-branch : goal.returns-then-not-branch
returns-then-not-branch g c =
    let f = c.args.self.now in
    let l = c.loop-run.run in
    let env = c.loop-run.scope.names in
    running_none (spec.reads f.budget) f.budget _ f.tokens.now c.args.at l env c.loop-run.invariant
    (spec_untaken f.tokens.now f.budget l c.take_spec.new.run env c.take_spec.new.scope.names c.in_ok-take_spec.field-0 (spec.spec (spec.reads f.budget) f.budget env l.has_type (drop l.at f.tokens.now)) c.in_ok-take_spec.ensures c.if-not-branch.true)

pub returns-then-not-takes : goal.returns-then-not-takes
returns-then-not-takes g c =
    let f = c.args.self.now in
    let l = c.loop-run.run in
    let env = c.loop-run.scope.names in
    running_ends (spec.reads f.budget) f.budget _ f.tokens.now c.args.at l env c.loop-run.invariant c.take_spec.new.run c.take_spec.new.scope.names
    (spec_taken f.tokens.now f.budget l c.take_spec.new.run env c.take_spec.new.scope.names c.in_ok-take_spec.field-0 (spec.spec (spec.reads f.budget) f.budget env l.has_type (drop l.at f.tokens.now)) c.in_ok-take_spec.ensures c.if-not-branch.false)
    (sym c.takes.ensures ∙ c.if-not-takes.true)
