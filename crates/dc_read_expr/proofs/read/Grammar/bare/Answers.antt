use Rattle.std.proofs.Common.{◌≡◌, Ok, drop, sym, ap, ◌∙◌, rules}
use Rattle.dc_syntax.specs.Reading as spec
use Rattle.dc_syntax.specs.Reading.{Nothing}
use Rattle.dc_read_expr.proofs.Results.{specifying_some}
use Rattle.dc_read_expr.proofs.Bare.{bare_none, bare_bodied, bare_not_longest, bare_longest}
use Rattle.dc_read_expr.proofs.read.Grammar.bare.Goals as goal

pub returns-in_default : goal.returns-in_default
returns-in_default g c =
    let e : spec.specs (spec.reads c.args.self.now.budget) c.args.self.now.budget c.args.names.now.names (drop c.args.at c.args.self.now.tokens.now) ≡ Nothing = search rules in
    bare_none (spec.reads c.args.self.now.budget) c.args.self.now.budget c.args.names.now.names (drop c.args.at c.args.self.now.tokens.now) e

pub returns-then-read : goal.returns-then-read
returns-then-read g c =
    let f = c.args.self.now in
    bare_bodied (spec.reads f.budget) f.budget c.args.names.now.names f.tokens.now c.args.at c.in-Some.read
    (specifying_some f.tokens.now c.args.at f.budget c.in-Some.read _ c.specs.result c.specs.ensures (c.in_ok-read.was ∙ ap Ok c.in-Some.is)) c.if-read.true

pub returns-then-not-leaves : goal.returns-then-not-leaves
returns-then-not-leaves g c =
    let f = c.args.self.now in
    bare_not_longest (spec.reads f.budget) f.budget c.args.names.now.names f.tokens.now c.args.at c.in-Some.read
    (specifying_some f.tokens.now c.args.at f.budget c.in-Some.read _ c.specs.result c.specs.ensures (c.in_ok-read.was ∙ ap Ok c.in-Some.is)) c.if-read.false (sym c.leaves.ensures ∙ c.if-not-leaves.true)

pub returns : goal.returns
returns g c =
    let f = c.args.self.now in
    bare_longest (spec.reads f.budget) f.budget c.args.names.now.names f.tokens.now c.args.at c.in-Some.read
    (specifying_some f.tokens.now c.args.at f.budget c.in-Some.read _ c.specs.result c.specs.ensures (c.in_ok-read.was ∙ ap Ok c.in-Some.is)) c.if-read.false (sym c.leaves.ensures ∙ c.if-not-leaves.false)
