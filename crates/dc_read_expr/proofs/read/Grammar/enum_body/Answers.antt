use Rattle.std.proofs.Common.{◌≡◌, ◌<◌, ◌+◌, Ok, drop, sym, ap, ◌∙◌, rules, arith}
use Rattle.dc_syntax.specs.declared.mark.Mark.TheVariants.{LeftBrace}
use Rattle.dc_syntax.specs.Tokens.{Marked}
use Rattle.dc_syntax.specs.Reading as spec
use Rattle.dc_syntax.specs.Reading.{Nothing}
use Rattle.dc_syntax.specs.View.{tag_view}
use Rattle.dc_read_expr.proofs.Eating.{within_begins}
use Rattle.dc_read_expr.proofs.Results.{read_from}
use Rattle.dc_read_expr.proofs.Tags.{reading_by}
use Rattle.dc_read_expr.proofs.Bodies.{enum_no_first, enum_first}
use Rattle.dc_read_expr.proofs.read.Grammar.enum_body.Goals as goal

pub behind-requires : goal.behind-requires
behind-requires g c = record { within = within_begins (Marked LeftBrace) _ _ c.requires.opens }

pub returns-in_default : goal.returns-in_default
returns-in_default g c =
    let f = c.args.self.now in
    let ts = f.tokens.now in
    let e : spec.reads c.args.self.now.budget spec.EnumeratorOf c.args.names.now.names (drop c.behind.result c.args.self.now.tokens.now) ≡ Nothing = search rules in
    enum_no_first (spec.reads f.budget) c.args.names.now.names (drop c.args.at ts) (tag_view c.args.tag) ts c.args.brace c.requires.opens
    (ap (λ k. spec.reads f.budget spec.EnumeratorOf c.args.names.now.names (drop k ts)) (sym c.behind.ensures) ∙ e)

pub enum_behind-requires-clause-order : goal.enum_behind-requires-clause-order
enum_behind-requires-clause-order g c =
    let f = c.args.self.now in
    let q = read_from f.tokens.now (c.args.brace + 1) c.behind.result f.budget c.in-Some.first (spec.reads f.budget spec.EnumeratorOf c.args.names.now.names) c.below_in.result c.below_in.ensures c.behind.ensures (c.in_ok-first.was ∙ ap Ok c.in-Some.is) in
    let after : c.args.at < c.in-Some.first.at = omega (arith, c.requires.order, q.after) in
    (after, q.within)

pub returns : goal.returns
returns g c =
    let f = c.args.self.now in
    let r = spec.reads f.budget in
    let env = c.args.names.now.names in
    let ts = f.tokens.now in
    reading_by _ _ _ _ _ _ c.enum_behind.ensures
    (enum_first r env (drop c.args.at ts) (tag_view c.args.tag) ts c.args.brace f.budget c.in-Some.first c.requires.opens
    (read_from ts (c.args.brace + 1) c.behind.result f.budget c.in-Some.first (r spec.EnumeratorOf env) c.below_in.result c.below_in.ensures c.behind.ensures (c.in_ok-first.was ∙ ap Ok c.in-Some.is)))
