use Rattle.std.proofs.Common.{max, drop, map, refl, ap, ◌∙◌}
use Rattle.dc_syntax.specs.Reading.{next, found}
use Rattle.dc_syntax.specs.Trees.{Enumerators, EnumBody}
use Rattle.dc_syntax.specs.View.{raw_view, tag_view, more_tree}
use Rattle.dc_read_expr.proofs.Eating.{list_end_next}
use Rattle.dc_read_expr.proofs.Bodies.{enum_reading}
use Rattle.dc_read_expr.proofs.read.Grammar.enum_ended.Goals as goal

pub returns-in_default : goal.returns-in_default
returns-in_default g c =
    let f = c.args.self.now in
    let go = found (drop c.args.at f.tokens.now) (EnumBody (tag_view c.args.tag) (raw_view c.args.first.tree) (more_tree Enumerators (map raw_view c.args.more.items))) in
    list_end_next (drop c.args.more.at f.tokens.now) go ∙ ap (λ o. next o (λ b rest. go rest)) c.in_default.ensures

pub returns : goal.returns
returns g c =
    let f = c.args.self.now in
    enum_reading f.names.now.names f.tokens.now c.args.at f.budget c.args.tag_height c.in-Some.end c.args.tag c.args.first c.args.more c.place.result _ c.requires.order.0 c.requires.tag c.requires.first_high c.requires.first_low c.requires.more_high c.requires.more_low
    c.in-Some.ensures c.in_ok-new.ensures c.place.ensures (c.higher-2.ensures ∙ ap (max c.args.tag_height) c.higher.ensures) refl
