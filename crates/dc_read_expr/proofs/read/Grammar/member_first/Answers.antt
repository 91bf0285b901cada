use Rattle.std.proofs.Common.{◌<◌, ◌||◌, not, Ok, map, drop, sym, ap, ◌∙◌, arith}
use Rattle.dc_syntax.specs.Trees.{declared}
use Rattle.dc_syntax.specs.Phrases.{begins_typedef}
use Rattle.dc_syntax.specs.Reading as spec
use Rattle.dc_syntax.specs.View.{raw_view, specs_tree}
use Rattle.dc_read_expr.proofs.Results.{reading_some, reading_none}
use Rattle.dc_read_expr.proofs.Tags.{reading_by}
use Rattle.dc_read_expr.proofs.MemberDeclarations.{member_not_longest, member_no_first, member_first}
use Rattle.dc_read_expr.proofs.read.Grammar.member_first.Goals as goal

pub returns-then-not-leaves : goal.returns-then-not-leaves
returns-then-not-leaves g c =
    let f = c.args.self.now in
    let ts = f.tokens.now in
    let run = c.args.read in
    let s = specs_tree (map raw_view run.specs) in
    member_not_longest (spec.reads f.budget) f.names.now.names c.declare_specs.new.names.names (drop c.args.at ts) s (drop run.at ts)
    (c.in_ok-declare_specs.ensures ∙ (ap (λ l. declared (specs_tree (map raw_view l)) c.within-scope.result.names) c.as_slice.ensures ∙ ap (declared s) c.within-scope.ensures))
    (ap (λ b. b || not (begins_typedef c.declare_specs.new.names.names (drop run.at ts))) (sym c.requires.typed) ∙ (sym c.leaves.ensures ∙ c.if-not-leaves.true))

pub returns-in_default : goal.returns-in_default
returns-in_default g c =
    let f = c.args.self.now in
    let ts = f.tokens.now in
    let run = c.args.read in
    let s = specs_tree (map raw_view run.specs) in
    member_no_first (spec.reads f.budget) f.names.now.names c.declare_specs.new.names.names (drop c.args.at ts) s (drop run.at ts)
    (c.in_ok-declare_specs.ensures ∙ (ap (λ l. declared (specs_tree (map raw_view l)) c.within-scope.result.names) c.as_slice.ensures ∙ ap (declared s) c.within-scope.ensures))
    (ap (λ b. b || not (begins_typedef c.declare_specs.new.names.names (drop run.at ts))) (sym c.requires.typed) ∙ (sym c.leaves.ensures ∙ c.if-not-leaves.false))
    (reading_none ts run.at f.budget _ c.declarator_named.result c.declarator_named.ensures (c.in_ok-first.was ∙ ap Ok c.in_default.is))

pub member_more-requires-clause-order : goal.member_more-requires-clause-order
member_more-requires-clause-order g c =
    let f = c.args.self.now in
    let ts = f.tokens.now in
    let run = c.args.read in
    let q = reading_some ts run.at f.budget c.in-Some.first _ c.declarator_named.result c.declarator_named.ensures (c.in_ok-first.was ∙ ap Ok c.in-Some.is) in
    let after : c.args.at < c.in-Some.first.at = omega (arith, c.requires.order.0, q.after) in
    (after, q.within)

pub returns : goal.returns
returns g c =
    let f = c.args.self.now in
    let ts = f.tokens.now in
    let run = c.args.read in
    let s = specs_tree (map raw_view run.specs) in
    let q = reading_some ts run.at f.budget c.in-Some.first _ c.declarator_named.result c.declarator_named.ensures (c.in_ok-first.was ∙ ap Ok c.in-Some.is) in
    reading_by _ _ _ _ _ _ c.member_more.ensures
    (member_first (spec.reads f.budget) f.names.now.names c.declare_specs.new.names.names (drop c.args.at ts) s (drop run.at ts)
    (c.in_ok-declare_specs.ensures ∙ (ap (λ l. declared (specs_tree (map raw_view l)) c.within-scope.result.names) c.as_slice.ensures ∙ ap (declared s) c.within-scope.ensures))
    (raw_view c.in-Some.first.tree) (drop c.in-Some.first.at ts) (ap (λ b. b || not (begins_typedef c.declare_specs.new.names.names (drop run.at ts))) (sym c.requires.typed) ∙ (sym c.leaves.ensures ∙ c.if-not-leaves.false)) q.found)
