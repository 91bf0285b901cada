use Rattle.std.proofs.Common.{◌∙◌, ap}
use Rattle.dc_num.specs.Operators.{settled, binary_of}
use Rattle.dc_num.proofs.Values.{IsValue-wide}
use Rattle.dc_num.proofs.Machine.{sum-read, difference-read}
use Rattle.dc_num.proofs.arithmetic.binary.Goals as goal

pub returns-in-Add : goal.returns-in-Add
unfolding binary_of
returns-in-Add c = rw c.in-Add.is (c.settle.ensures ∙ ap (settled c.args.kind) (sum-read c.args.a c.args.b (IsValue-wide c.args.kind _ c.requires.left) (IsValue-wide c.args.kind _ (rw c.in-Add.is at c.requires.right))))

pub returns-in-Sub : goal.returns-in-Sub
unfolding binary_of
returns-in-Sub c = rw c.in-Sub.is (c.settle-in-Sub.ensures ∙ ap (settled c.args.kind) (difference-read c.args.a c.args.b (IsValue-wide c.args.kind _ c.requires.left) (IsValue-wide c.args.kind _ (rw c.in-Sub.is at c.requires.right))))
