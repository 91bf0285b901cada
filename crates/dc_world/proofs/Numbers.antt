-- What the code has of a value.
use Rattle.std.proofs.Common.{◌≡◌, arith, ℤ, to_z, of_z}
use Rattle.std.proofs.lemmas.Int.{ints}
use Rattle.dc_num.specs.declared.kind.NumKind.{NumKind}
use Rattle.dc_num.specs.Kinds.{IsValue}
use Rattle.dc_num.proofs.Values.{IsValue-wide}
use mir.Syntax.{w128}

pub value-read : (k : NumKind) (z : ℤ) → IsValue k z → to_z w128 (of_z w128 z) ≡ z
value-read k z v = let w = IsValue-wide k z v in omega (arith, ints, w.above, w.below)
