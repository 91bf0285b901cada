use Rattle.std.proofs.Common.{◌+◌, max, Ok, map, drop, sym, refl, ap, ◌∙◌}
use Rattle.dc_syntax.specs.declared.mark.Mark.TheVariants.{Semicolon}
use Rattle.dc_syntax.specs.Tokens.{Marked}
use Rattle.dc_syntax.specs.Trees.{Declared}
use Rattle.dc_syntax.specs.Reading as spec
use Rattle.dc_syntax.specs.View.{raw_view, specs_tree, more_tree}
use Rattle.dc_read_expr.proofs.Eating.{within_begins}
use Rattle.dc_read_expr.proofs.Results.{listing_some, listing_none}
use Rattle.dc_read_expr.proofs.MemberDeclarations.{member_no_more, member_no_end, member_reading}
use Rattle.dc_read_expr.proofs.read.Grammar.member_more.Goals as goal

pub returns-in_default : goal.returns-in_default
returns-in_default g c =
    let f = c.args.self.now in
    let ts = f.tokens.now in
    member_no_more (spec.reads f.budget) c.args.names.now.names (drop c.args.at ts) (specs_tree (map raw_view c.args.read.specs)) (raw_view c.args.first.tree) (drop c.args.first.at ts)
    (listing_none ts c.args.first.at f.budget (more_tree Declared) _ c.more.result c.more.ensures (c.in_ok-more.was ∙ ap Ok c.in_default.is))

pub returns-then-not-begins_semicolon : goal.returns-then-not-begins_semicolon
returns-then-not-begins_semicolon g c =
    let f = c.args.self.now in
    let ts = f.tokens.now in
    member_no_end (spec.reads f.budget) c.args.names.now.names (drop c.args.at ts) (specs_tree (map raw_view c.args.read.specs)) (raw_view c.args.first.tree) ts c.args.first.at c.args.first.at f.budget c.in-Some.more
    (listing_some ts c.args.first.at f.budget (more_tree Declared) c.in-Some.more _ c.more.result c.more.ensures (c.in_ok-more.was ∙ ap Ok c.in-Some.is)) (sym c.begins_semicolon.ensures ∙ c.if-not-begins_semicolon.true)

pub behind-end-requires : goal.behind-end-requires
behind-end-requires g c = record { within = within_begins (Marked Semicolon) _ _ (sym c.begins_semicolon.ensures ∙ c.if-not-begins_semicolon.false) }

pub returns : goal.returns
returns g c =
    let f = c.args.self.now in
    let ts = f.tokens.now in
    member_reading (spec.reads f.budget) c.args.names.now.names ts c.args.at f.budget c.args.read c.args.first c.in-Some.more c.place.result c.behind-end.result _
    c.requires.order.0 c.requires.specs_high c.requires.specs_low c.requires.first_high c.requires.first_low
    (listing_some ts c.args.first.at f.budget (more_tree Declared) c.in-Some.more _ c.more.result c.more.ensures (c.in_ok-more.was ∙ ap Ok c.in-Some.is)) (sym c.begins_semicolon.ensures ∙ c.if-not-begins_semicolon.false)
    c.behind-end.ensures c.in_ok-new.ensures c.place.ensures (ap (λ n. n + 1) (c.higher-2.ensures ∙ ap (max c.args.read.height) c.higher.ensures)) refl
