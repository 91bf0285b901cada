use Rattle.std.proofs.Common.{◌∙◌, ap, Some}
use Rattle.dc_num.specs.Conversions.{promoted}
use Rattle.dc_num.specs.declared.operators.UnOp.TheVariants.{Neg, Not}
use Rattle.dc_rules.specs.Plain.{plain}
use Rattle.dc_rules.proofs.PlainKinds.{converted-read, unary_of-read}
use Rattle.dc_rules.proofs.arithmetic.changed.Goals as goal

pub returns-in-Plus : goal.returns-in-Plus
returns-in-Plus c =
    let is = c.plain-wide.ensures.value ∙ ap plain c.promoted.ensures in
    rw c.in-Plus.is (ap Some (converted-read (promoted c.args.kind) c.plain-wide.result c.args.v _ is c.ranges.v c.convert.ensures.value (record { sfits = c.convert.type_inv })))

pub returns-in-Negate : goal.returns-in-Negate
returns-in-Negate c =
    let is = c.plain-wide.ensures.value ∙ ap plain c.promoted.ensures in
    rw c.in-Negate.is (unary_of-read Neg (promoted c.args.kind) c.plain-wide.result _ _ _ is c.unary.ensures
    (converted-read (promoted c.args.kind) c.plain-wide.result c.args.v _ is c.ranges.v c.convert-in-Negate.ensures.value (record { sfits = c.convert-in-Negate.type_inv })))

pub returns-in-Complement : goal.returns-in-Complement
returns-in-Complement c =
    let is = c.plain-wide.ensures.value ∙ ap plain c.promoted.ensures in
    rw c.in-Complement.is (unary_of-read Not (promoted c.args.kind) c.plain-wide.result _ _ _ is c.unary-in-Complement.ensures
    (converted-read (promoted c.args.kind) c.plain-wide.result c.args.v _ is c.ranges.v c.convert-in-Complement.ensures.value (record { sfits = c.convert-in-Complement.type_inv })))
