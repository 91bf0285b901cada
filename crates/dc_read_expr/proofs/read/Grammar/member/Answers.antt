use Rattle.std.proofs.Common.{Ok, drop, ap, ◌∙◌}
use Rattle.dc_syntax.specs.Reading as spec
use Rattle.dc_read_expr.specs.Bodies.{behind_specs}
use Rattle.dc_read_expr.proofs.Results.{specifying_some, specifying_none}
use Rattle.dc_read_expr.proofs.Tags.{reading_by}
use Rattle.dc_read_expr.proofs.read.Grammar.member.Goals as goal

pub returns-in_default : goal.returns-in_default
returns-in_default g c =
    let f = c.args.self.now in
    ap (λ o. spec.next o (behind_specs (spec.reads f.budget) f.names.now.names (drop c.args.at f.tokens.now)))
    (specifying_none f.tokens.now c.args.at f.budget _ c.specs.result c.specs.ensures (c.in_ok-read.was ∙ ap Ok c.in_default.is))

pub member_first-requires-clause-order : goal.member_first-requires-clause-order
member_first-requires-clause-order g c =
    let f = c.args.self.now in
    let q = specifying_some f.tokens.now c.args.at f.budget c.in-Some.read _ c.specs.result c.specs.ensures (c.in_ok-read.was ∙ ap Ok c.in-Some.is) in
    (q.after, q.within)

pub returns : goal.returns
returns g c =
    let f = c.args.self.now in
    let q = specifying_some f.tokens.now c.args.at f.budget c.in-Some.read _ c.specs.result c.specs.ensures (c.in_ok-read.was ∙ ap Ok c.in-Some.is) in
    reading_by _ _ _ _ _ _ c.member_first.ensures (ap (λ o. spec.next o (behind_specs (spec.reads f.budget) f.names.now.names (drop c.args.at f.tokens.now))) q.found)
