use Rattle.std.proofs.Common.{refl, arith}
use Rattle.dc_syntax.specs.Trees.{has_tag, is_tag}
use Rattle.dc_syntax.proofs.InForce.{one_passes, none_passes}
use Rattle.dc_syntax.proofs.in_force.has_tag.Goals as goal

pub returns-then-is_tag : goal.returns-then-is_tag
returns-then-is_tag c =
    one_passes is_tag has_tag refl (λ s. refl) (λ s m. refl) c.args.specs.now c.loop-spec.spec-index c.spec-item.result _ (omega arith) c.spec-item.is c.is_tag.ensures c.if-is_tag.true

pub returns : goal.returns
returns c =
    none_passes is_tag has_tag refl (λ s. refl) (λ s m. refl) c.args.specs.now c.loop-spec.spec-index (omega arith) c.loop-spec.invariant
