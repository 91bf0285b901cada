use Rattle.std.proofs.Common.{refl}
use Rattle.dc_syntax.specs.Reading as spec
use Rattle.dc_read_expr.proofs.LengthsBehind.{unsized_turn}
use Rattle.dc_read_expr.proofs.read.Grammar.unsized_behind.Goals as goal

pub returns : goal.returns
returns g c =
    let f = c.args.self.now in
    unsized_turn (spec.reads f.budget) f.budget f.names.now.names f.tokens.now c.args.at c.args.before c.place.result _ c.requires.begins c.requires.closed c.requires.within.0 c.requires.high c.requires.low c.in_ok-new.ensures c.place.ensures refl refl
