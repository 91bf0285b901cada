use Rattle.std.proofs.Common.{◌∙◌, ap, sym}
use Rattle.dc_layout.specs.Kept.{within_limit}
use Rattle.dc_layout.proofs.Offsets.{offset_answer-members, offset_answer-none, told-none, told-some}
use Rattle.dc_layout.proofs.sizes.offset_of.Goals as goal

pub returns-in_default : goal.returns-in_default
returns-in_default c = offset_answer-none c.args.table.now c.args.s c.args.member (sym c.in_default.ensures.value)

pub returns-in-None : goal.returns-in-None
returns-in-None c =
    told-none _ c.in-None.ensures
    ∙ offset_answer-members c.args.table.now c.args.s c.args.member _ c.in-Some.members.now (c.in_default-within_limit.ensures ∙ ap within_limit c.kept.ensures.value) (sym c.in-Some.ensures.value) (rw (← c.in-Some.ensures.value) at c.requires)

pub returns-in-Some-begin : goal.returns-in-Some-begin
returns-in-Some-begin c =
    told-some _ c.in-Some-begin.offset c.in-Some-begin.ensures
    ∙ offset_answer-members c.args.table.now c.args.s c.args.member _ c.in-Some.members.now (c.in_default-within_limit.ensures ∙ ap within_limit c.kept.ensures.value) (sym c.in-Some.ensures.value) (rw (← c.in-Some.ensures.value) at c.requires)
