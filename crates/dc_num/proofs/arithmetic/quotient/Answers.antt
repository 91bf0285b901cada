use Rattle.std.proofs.Common.{◌∙◌, arith}
use Rattle.std.proofs.lemmas.Int.{fits_signed_from_abs}
use Rattle.dc_num.proofs.Values.{IsValue-wide}
use Rattle.dc_num.proofs.Machine.{quotient-read, abs-quotient, abs-wide}
use Rattle.dc_num.proofs.arithmetic.quotient.Goals as goal
use mir.Syntax.{w128}

pub returns-else-b-eq0 : goal.returns-else-b-eq0
returns-else-b-eq0 c =
    let small = abs-wide c.args.a (IsValue-wide c.args.kind _ c.requires.left) in
    c.settle.ensures ∙ quotient-read c.args.kind c.args.a c.args.b c.ranges.a c.ranges.b (fits_signed_from_abs w128 _ (omega (arith, small, abs-quotient c.args.a c.args.b))) c.if-b-eq0.false
