use Rattle.std.proofs.Common.{◌≡◌}
use Rattle.std.specs.Prelude.{replicate}
use Rattle.dc_layout.specs.declared.ctype.CType.TheVariants.{Num}
use Rattle.dc_layout.specs.declared.kind.LayKind.TheVariants.{S32}
use Rattle.dc_form.proofs.source.ints.Given as goal

abbrev pub invariant-loop-index : goal.invariant-loop-index
invariant-loop-index l = l.types ≡ replicate l._index (Num S32)
