use Rattle.std.proofs.Common.{◌≡◌, ◌∙◌, ap, sym, true, arith}
use Rattle.std.proofs.lemmas.Int.{fits_signed_mul}
use Rattle.dc_num.specs.Kinds.{is_signed}
use Rattle.dc_num.specs.Operators.{settled}
use Rattle.dc_num.proofs.Values.{abs-signed}
use Rattle.dc_num.proofs.Machine.{product-read}
use Rattle.dc_num.proofs.arithmetic.product.Goals as goal
use mir.Syntax.{w128}

pub returns-then-is_signed : goal.returns-then-is_signed
returns-then-is_signed c =
    let signed : is_signed c.args.kind ≡ true = sym c.is_signed.ensures ∙ c.if-is_signed.true in
    let left = abs-signed c.args.kind c.args.a signed c.requires.left in
    let right = abs-signed c.args.kind c.args.b signed c.requires.right in
    c.settle.ensures ∙ ap (settled c.args.kind) (product-read c.args.a c.args.b c.ranges.a c.ranges.b (fits_signed_mul w128 c.args.a c.args.b _ _ left right (omega arith)))
