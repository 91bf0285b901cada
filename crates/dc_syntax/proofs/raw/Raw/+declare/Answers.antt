use Rattle.std.proofs.Common.{map, sym, ap, ◌∙◌, arith}
use Rattle.dc_syntax.specs.Trees.{Enumerators, declared}
use Rattle.dc_syntax.specs.View.{raw_view, more_tree}
use Rattle.dc_syntax.proofs.Views.{raw_view-StructBody, raw_view-EnumBody, raw_view-MemberDeclaration}
use Rattle.dc_syntax.proofs.Declaring.{declared_in, declared_through, declared-more_tree, declared-members_tree, declared-specs_tree}
use Rattle.dc_syntax.proofs.raw.Raw.+declare.Goals as goal

pub returns-after-loop-member : goal.returns-after-loop-member
returns-after-loop-member t c =
    let old = c.args.names.now.names in
    declared_through c.as_slice-member-items.result.now c.loop-member.member-index _ _ _ (omega arith) c.loop-member.invariant
    (ap (λ r. declared (raw_view r) old) c.in-StructBody.is ∙ (ap (λ t. declared t old) (raw_view-StructBody _ c.in-StructBody.members _)
    ∙ (declared-members_tree (map raw_view c.in-StructBody.members) old ∙ ap (λ l. declared_in (map raw_view l) old) (sym c.as_slice-member-items.ensures))))

pub returns-after-loop-enumerator : goal.returns-after-loop-enumerator
returns-after-loop-enumerator t c =
    let old = c.args.names.now.names in
    let more = map raw_view c.in-EnumBody.more in
    declared_through c.as_slice-enumerator-items.result.now c.loop-enumerator.enumerator-index _ _ _ (omega arith) c.loop-enumerator.invariant
    (ap (λ r. declared (raw_view r) old) c.in-EnumBody.is ∙ (ap (λ t. declared t old) (raw_view-EnumBody _ c.in-EnumBody.first c.in-EnumBody.more _)
    ∙ (ap (λ r. declared (more_tree Enumerators more) (declared (raw_view r) old)) (sym c.get.ensures)
    ∙ (ap (declared (more_tree Enumerators more)) (sym c.in_ok-declare-in-EnumBody.ensures)
    ∙ (declared-more_tree Enumerators more c.declare-in-EnumBody.new.names.names
    ∙ ap (λ l. declared_in (map raw_view l) c.declare-in-EnumBody.new.names.names) (sym c.as_slice-enumerator-items.ensures))))))

pub returns-after-loop-spec : goal.returns-after-loop-spec
returns-after-loop-spec t c =
    let old = c.args.names.now.names in
    declared_through c.as_slice-spec-items.result.now c.loop-spec.spec-index _ _ _ (omega arith) c.loop-spec.invariant
    (ap (λ r. declared (raw_view r) old) c.in-MemberDeclaration.is ∙ (ap (λ t. declared t old) (raw_view-MemberDeclaration c.in-MemberDeclaration.specs _ _ _)
    ∙ (declared-specs_tree (map raw_view c.in-MemberDeclaration.specs) old ∙ ap (λ l. declared_in (map raw_view l) old) (sym c.as_slice-spec-items.ensures))))
