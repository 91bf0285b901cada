use Rattle.std.proofs.Common.{◌∙◌, sym}
use Rattle.std.proofs.lemmas.Int.{to_z-of_z}
use Rattle.dc_rules.proofs.PlainKinds.{computed-balanced}
use Rattle.dc_rules.proofs.arithmetic.computed.Goals as goal
use mir.Syntax.{w128}

pub returns-in_default : goal.returns-in_default
returns-in_default c =
    c.computed_as.ensures
    ∙ rw (c.common_kind.ensures, to_z-of_z w128 c.args.v c.ranges.v, to_z-of_z w128 c.args.w c.ranges.w) (sym (computed-balanced c.args.op c.args.k c.args.l c.args.v c.args.w c.in_default.not-Shl c.in_default.not-Shr))
