use Rattle.std.proofs.Common.{refl, arith}
use Rattle.dc_syntax.specs.Trees.{is_typedef, is_typedef_spec}
use Rattle.dc_syntax.proofs.InForce.{one_passes, none_passes}
use Rattle.dc_syntax.proofs.in_force.is_typedef.Goals as goal

pub returns-then-is_typedef_spec : goal.returns-then-is_typedef_spec
returns-then-is_typedef_spec c =
    one_passes is_typedef_spec is_typedef refl (λ s. refl) (λ s m. refl) c.args.specs.now c.loop-spec.spec-index c.spec-item.result _ (omega arith) c.spec-item.is c.is_typedef_spec.ensures c.if-is_typedef_spec.true

pub returns : goal.returns
returns c =
    none_passes is_typedef_spec is_typedef refl (λ s. refl) (λ s m. refl) c.args.specs.now c.loop-spec.spec-index (omega arith) c.loop-spec.invariant
