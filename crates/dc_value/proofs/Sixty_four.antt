-- Numbers of pointers, which have 64 bits.
use Rattle.std.proofs.Common.{◌≡◌, ℕ, ◌<◌, ◌^◌, ℤ, pos, refl, ap}
use Rattle.std.proofs.Math.Nat.{mod-eq_of_lt}
use Rattle.dc_num.specs.declared.kind.NumKind.TheVariants.{U64, Ptr}
use Rattle.dc_num.specs.declared.operators.BinOp.{BinOp}
use Rattle.dc_num.specs.declared.operators.BinOp.TheVariants.{Add}
use Rattle.dc_num.specs.declared.operators.UnOp.{UnOp}
use Rattle.dc_num.specs.declared.operators.UnOp.TheVariants.{Neg, Not}
use Rattle.dc_num.specs.Conversions.{bits, converted}
use Rattle.dc_num.specs.Operators.{binary_of, unary_of}
use Rattle.dc_goto.specs.Values.{as_pointer}

pub pointer-unary : (op : UnOp) (z : ℤ) → unary_of op Ptr (converted Ptr z) ≡ unary_of op U64 (converted U64 z)
unfolding unary_of converted bits
pointer-unary Neg z = refl
pointer-unary Not z = refl

pub pointer-binary : (op : BinOp) (a b : ℤ) → binary_of op Ptr a b ≡ binary_of op U64 a b
unfolding binary_of bits
pointer-binary Add a b = refl
pointer-binary op a b = refl

pub pointer-converted : (z : ℤ) → converted Ptr z ≡ pos (as_pointer z)
unfolding converted
pointer-converted z = refl

pub converted-pointer : (p : ℕ) → p < 2 ^ 64 → converted Ptr (pos p) ≡ pos p
unfolding converted bits
converted-pointer p h = ap (λ n. pos n) (mod-eq_of_lt h)
