use Rattle.std.proofs.Common.{◌+◌, Ok, refl, ap, ◌∙◌}
use Rattle.dc_syntax.specs.Reading as spec
use Rattle.dc_read_expr.proofs.Results.{reading_some}
use Rattle.dc_read_expr.proofs.Closed.{next_mark}
use Rattle.dc_read_expr.proofs.LengthsBehind.{sized_turn}
use Rattle.dc_read_expr.proofs.read.Grammar.sized_behind.Goals as goal

pub returns : goal.returns
returns g c =
    let f = c.args.self.now in
    let m = c.in-Some-Marked-RightBracket in
    sized_turn (spec.reads f.budget) f.budget f.names.now.names f.tokens.now c.args.at c.args.before c.in-Some.length c.place.result _ c.requires.begins c.requires.open_yet c.requires.within.0 c.requires.high c.requires.low
    (reading_some f.tokens.now (c.args.before.at + 1) f.budget c.in-Some.length _ c.below.result c.below.ensures (c.in_ok-length.was ∙ ap Ok c.in-Some.is))
    (next_mark f.tokens.now _ m.field-0 m.field-0-0 _ m.ensures m.field-0-is m.field-0-0-is) c.in_ok-new.ensures c.place.ensures (ap (λ n. n + 1) c.higher.ensures) refl
