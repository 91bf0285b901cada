use Rattle.dc_rules.proofs.PlainKinds.{converted-read, binary_of-read}
use Rattle.dc_rules.proofs.arithmetic.computed_as.Goals as goal

pub returns : goal.returns
returns c =
    binary_of-read c.args.op c.args.kind c.plain-kind.result _ _ _ _ _ c.plain-kind.ensures.value c.binary.ensures
    (converted-read c.args.kind c.plain-kind.result c.args.v _ c.plain-kind.ensures.value c.ranges.v c.convert.ensures.value (record { sfits = c.convert.type_inv }))
    (converted-read c.args.kind c.plain-kind.result c.args.w _ c.plain-kind.ensures.value c.ranges.w c.convert-2.ensures.value (record { sfits = c.convert-2.type_inv }))
