use Rattle.std.proofs.Common.{◌∙◌, ap}
use Rattle.std.proofs.lemmas.Int.{to_z-of_z}
use Rattle.dc_num.specs.Conversions.{promoted}
use Rattle.dc_rules.specs.Plain.{plain}
use Rattle.dc_rules.proofs.PlainKinds.{converted-read, binary_of-read}
use Rattle.dc_rules.proofs.arithmetic.shifted.Goals as goal
use mir.Syntax.{w128}

pub returns : goal.returns
returns c =
    let is = c.plain-kind.ensures.value ∙ ap plain c.promoted.ensures in
    binary_of-read c.args.op (promoted c.args.kind) c.plain-kind.result _ _ _ _ _ is c.binary.ensures
    (converted-read (promoted c.args.kind) c.plain-kind.result c.args.v _ is c.ranges.v c.convert.ensures.value (record { sfits = c.convert.type_inv }))
    (to_z-of_z w128 c.args.w c.ranges.w)
