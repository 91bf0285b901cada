use Rattle.std.proofs.Common.{◌∙◌, ap}
use Rattle.dc_num.specs.Operators.{settled, unary_of}
use Rattle.dc_num.proofs.Values.{IsValue-wide}
use Rattle.dc_num.proofs.Machine.{negative-read}
use Rattle.dc_num.proofs.arithmetic.unary.Goals as goal

pub returns-in-Neg : goal.returns-in-Neg
unfolding unary_of
returns-in-Neg c = rw c.in-Neg.is (c.settle.ensures ∙ ap (settled c.args.kind) (negative-read c.args.a (IsValue-wide c.args.kind _ c.requires.operand)))
