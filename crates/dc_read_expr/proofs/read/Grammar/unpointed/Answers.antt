use Rattle.std.proofs.Common.{◌≡◌, ◌+◌, Ok, drop, ap, ◌∙◌, rules}
use Rattle.dc_syntax.specs.Reading as spec
use Rattle.dc_syntax.specs.Reading.{Nothing}
use Rattle.dc_read_expr.proofs.Results.{loosely_some}
use Rattle.dc_read_expr.proofs.Suffixes.{declarator_nothing, declarator_reading}
use Rattle.dc_read_expr.proofs.read.Grammar.unpointed.Goals as goal

pub returns-in_default : goal.returns-in_default
returns-in_default g c =
    let f = c.args.self.now in
    let e : spec.direct (spec.reads c.args.self.now.budget) c.args.self.now.names.now.names (drop c.args.at c.args.self.now.tokens.now) ≡ Nothing = search rules in
    declarator_nothing (spec.reads f.budget) f.budget f.names.now.names (drop c.args.at f.tokens.now) c.requires.plain e

pub returns : goal.returns
returns g c =
    let f = c.args.self.now in
    let q = loosely_some f.tokens.now c.args.at (f.budget + 1) c.in-Some.first (spec.direct (spec.reads f.budget) f.names.now.names (drop c.args.at f.tokens.now)) c.direct.result c.direct.ensures (c.in_ok-first.was ∙ ap Ok c.in-Some.is) in
    declarator_reading (spec.reads f.budget) f.budget f.names.now.names f.tokens.now c.args.at c.in-Some.first c.in_ok-suffixes.field-0 c.requires.plain q.found c.in_ok-suffixes.ensures
