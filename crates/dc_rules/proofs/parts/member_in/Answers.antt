use Rattle.std.proofs.Common.{◌∙◌, sym}
use Rattle.dc_layout.specs.Types.{type_view}
use Rattle.dc_rules.proofs.MemberTypes.{member_in-members}
use Rattle.dc_rules.proofs.parts.member_in.Goals as goal

pub returns : goal.returns
returns c =
    member_in-members c.args.structs.now (type_view c.args.t.now) c.args.k c.in_ok-struct_of.field-0 c.in_ok-members.members.now _
    (sym c.struct_of.ensures ∙ c.in_ok-struct_of.was) (sym c.in_ok-members.ensures.value) c.at.ensures
