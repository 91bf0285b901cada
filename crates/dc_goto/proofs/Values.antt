-- The machine's values.
use Rattle.std.proofs.Common.{◌≡◌, ℕ, ℤ, ◌<◌, ◌^◌, refl}
use Rattle.std.specs.Prelude.{pos}
use Rattle.dc_num.specs.declared.kind.NumKind.TheVariants.{S32}
use Rattle.dc_num.specs.declared.operators.BinOp.{BinOp}
use Rattle.dc_num.specs.declared.operators.BinOp.TheVariants.{Shl, Shr}
use Rattle.dc_num.specs.Conversions.{bits}
use Rattle.dc_num.specs.Kinds.{IsValue}
use Rattle.dc_core.proofs.Numbers.{bits-small, converted-value}
use Rattle.dc_goto.specs.Values.{as_pointer, as_length, right_operand}

-- a pointer or a length is itself
pub as_pointer-pos : (n : ℕ) → n < 2 ^ 64 → as_pointer (pos n) ≡ n
unfolding bits
as_pointer-pos n h = bits-small n h

pub as_length-pos : (n : ℕ) → n < 2 ^ 64 → as_length (pos n) ≡ n
as_length-pos n h = bits-small n h

-- an int is itself
pub right_operand-value : (op : BinOp) (z : ℤ) → IsValue S32 z → right_operand op S32 z ≡ z
right_operand-value Shl z v = refl
right_operand-value Shr z v = refl
right_operand-value op z v = converted-value z v
