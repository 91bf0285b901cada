use Rattle.std.proofs.Common.{◌≡◌, Ok, length, drop, sym, refl, ap, ◌∙◌, rules}
use Rattle.dc_syntax.specs.declared.mark.Mark.TheVariants.{LeftBrace}
use Rattle.dc_syntax.specs.Tokens.{Marked}
use Rattle.dc_syntax.specs.Reading as spec
use Rattle.dc_syntax.specs.Reading.{Nothing}
use Rattle.dc_syntax.specs.View.{tag_view, members_tree}
use Rattle.dc_read_expr.specs.View.{closed_members}
use Rattle.dc_read_expr.proofs.Eating.{within_begins}
use Rattle.dc_read_expr.proofs.Results.{listing_from}
use Rattle.dc_read_expr.proofs.Bodies.{struct_none, struct_reading}
use Rattle.dc_read_expr.proofs.read.Grammar.struct_body.Goals as goal

pub behind-requires : goal.behind-requires
behind-requires g c = record { within = within_begins (Marked LeftBrace) _ _ c.requires.opens }

pub returns-in_default : goal.returns-in_default
returns-in_default g c =
    let f = c.args.self.now in
    let r = spec.reads f.budget in
    let env = c.args.names.now.names in
    let ts = f.tokens.now in
    let e : closed_members (spec.reads c.args.self.now.budget) c.args.names.now.names (length (drop c.behind.result c.args.self.now.tokens.now)) (drop c.behind.result c.args.self.now.tokens.now) ≡ Nothing = search rules in
    struct_none r env (drop c.args.at ts) (tag_view c.args.tag) ts c.args.brace c.requires.opens (ap (λ k. closed_members r env (length (drop k ts)) (drop k ts)) (sym c.behind.ensures) ∙ e)

pub returns : goal.returns
returns g c =
    let f = c.args.self.now in
    let r = spec.reads f.budget in
    let env = c.args.names.now.names in
    let ts = f.tokens.now in
    struct_reading r env ts c.args.at c.args.brace f.budget c.args.tag_height c.args.tag c.in-Some.members c.place.result _ c.requires.opens c.requires.order
    (listing_from ts _ c.behind.result f.budget members_tree c.in-Some.members (λ ts. closed_members r env (length ts) ts) c.members.result c.members.ensures c.behind.ensures (c.in_ok-members.was ∙ ap Ok c.in-Some.is))
    c.requires.tag c.in_ok-new.ensures c.place.ensures c.higher.ensures refl
