-- How large the values of kinds are, and that conversions give them.
use Rattle.std.proofs.Common.{◌≡◌, ℕ, ◌+◌, ◌-◌, ◌^◌, ◌<◌, ◌≤◌, Bool, true, false, refl, arith, ℤ, pos, negsuc, ◌≤ℤ◌, ◌-ℤ◌, to_z, of_z}
use Rattle.std.specs.Prelude.{if◌then◌else◌, not, ◌&&◌, int_lt, nat_lt, unsigned_abs}
use Rattle.std.proofs.lemmas.Int.{ints}
use Rattle.std.proofs.lemmas.Bool.Decides.{nat_tests}
use Rattle.std.proofs.Math.Nat.{mod-lt}
use Rattle.dc_num.specs.declared.kind.NumKind.{NumKind}
use Rattle.dc_num.specs.declared.kind.NumKind.TheVariants.{Bool as Truth, S8, U8, S16, U16, S32, U32, S64, U64, Ptr}
use Rattle.dc_num.specs.Kinds.{bits_of, is_signed, is_pointer, is_value, low_of, high_of, IsValue}
use Rattle.dc_num.specs.Conversions.{bits, value_of_bits, truth}
use Rattle.dc_num.specs.declared.operators.BinOp.{BinOp}
use Rattle.dc_num.specs.declared.operators.BinOp.TheVariants.{Add, Sub, Mul, Div, Rem, Shl, Shr, And, Or, Xor, Lt, Le, Gt, Ge, Eq, Ne}
use Rattle.dc_num.specs.Operators.{IsRight, is_operand_kind}
use mir.Syntax.{w128}

-- a kind has values
pub positive : (k : NumKind) → 0 < 2 ^ bits_of k
positive Truth = omega arith
positive S8 = omega arith
positive U8 = omega arith
positive S16 = omega arith
positive U16 = omega arith
positive S32 = omega arith
positive U32 = omega arith
positive S64 = omega arith
positive U64 = omega arith
positive Ptr = omega arith

pub bits-below : (k : NumKind) (z : ℤ) → bits k z < 2 ^ bits_of k
unfolding bits
bits-below k (pos n) = mod-lt n (positive k)
bits-below k (negsuc n) = let p = positive k in omega (arith, p)

-- between the least and the greatest value of a signed kind with twice that many values
record IsBetween (half : ℕ) (z : ℤ) : Type 0 where
  pub above : negsuc (half - 1) ≤ℤ z
  pub below : z ≤ℤ pos (half - 1)

spelled_signed : (half m : ℕ) (b : Bool) → nat_lt (half - 1) m ≡ b → m < half + half → IsBetween half (if b then pos m -ℤ pos (half + half) else pos m)
spelled_signed half m true e h =
    let l : half - 1 < m = grind (arith, nat_tests) in
    record { above = omega (arith, ints); below = omega (arith, ints) }
spelled_signed half m false e h =
    let l : m ≤ half - 1 = grind (arith, nat_tests) in
    record { above = omega (arith, ints); below = omega (arith, ints) }

pub IsValue-value_of_bits : (k : NumKind) (m : ℕ) → m < 2 ^ bits_of k → IsValue k (value_of_bits k m)
IsValue-value_of_bits Truth m h = record { above = omega (arith, ints); below = omega (arith, ints) }
IsValue-value_of_bits S8 m h = let r = spelled_signed (2 ^ 7) m _ refl h in record { above = r.above; below = r.below }
IsValue-value_of_bits U8 m h = record { above = omega (arith, ints); below = omega (arith, ints) }
IsValue-value_of_bits S16 m h = let r = spelled_signed (2 ^ 15) m _ refl h in record { above = r.above; below = r.below }
IsValue-value_of_bits U16 m h = record { above = omega (arith, ints); below = omega (arith, ints) }
IsValue-value_of_bits S32 m h = let r = spelled_signed (2 ^ 31) m _ refl h in record { above = r.above; below = r.below }
IsValue-value_of_bits U32 m h = record { above = omega (arith, ints); below = omega (arith, ints) }
IsValue-value_of_bits S64 m h = let r = spelled_signed (2 ^ 63) m _ refl h in record { above = r.above; below = r.below }
IsValue-value_of_bits U64 m h = record { above = omega (arith, ints); below = omega (arith, ints) }
IsValue-value_of_bits Ptr m h = record { above = omega (arith, ints); below = omega (arith, ints) }

pub record IsWide (z : ℤ) : Type 0 where
  pub above : negsuc (2 ^ 64) ≤ℤ z
  pub below : z ≤ℤ pos (2 ^ 64)

pub IsValue-wide : (k : NumKind) (z : ℤ) → IsValue k z → IsWide z
IsValue-wide Truth z v = record { above = omega (arith, ints); below = omega (arith, ints) }
IsValue-wide S8 z v = record { above = omega (arith, ints); below = omega (arith, ints) }
IsValue-wide U8 z v = record { above = omega (arith, ints); below = omega (arith, ints) }
IsValue-wide S16 z v = record { above = omega (arith, ints); below = omega (arith, ints) }
IsValue-wide U16 z v = record { above = omega (arith, ints); below = omega (arith, ints) }
IsValue-wide S32 z v = record { above = omega (arith, ints); below = omega (arith, ints) }
IsValue-wide U32 z v = record { above = omega (arith, ints); below = omega (arith, ints) }
IsValue-wide S64 z v = record { above = omega (arith, ints); below = omega (arith, ints) }
IsValue-wide U64 z v = record { above = omega (arith, ints); below = omega (arith, ints) }
IsValue-wide Ptr z v = record { above = omega (arith, ints); below = omega (arith, ints) }

pub abs-signed : (k : NumKind) (z : ℤ) → is_signed k ≡ true → IsValue k z → unsigned_abs z ≤ 2 ^ 63
abs-signed Truth z s v = cc
abs-signed S8 z s v = omega (arith, ints)
abs-signed U8 z s v = cc
abs-signed S16 z s v = omega (arith, ints)
abs-signed U16 z s v = cc
abs-signed S32 z s v = omega (arith, ints)
abs-signed U32 z s v = cc
abs-signed S64 z s v = omega (arith, ints)
abs-signed U64 z s v = cc
abs-signed Ptr z s v = cc

-- what the code has of a value
pub valued-read : (k : NumKind) (z : ℤ) → IsValue k z → IsValue k (to_z w128 (of_z w128 z))
valued-read k z v = let w = IsValue-wide k z v in let e : to_z w128 (of_z w128 z) ≡ z = omega (arith, ints) in rw e v

false-true : false ≡ true → ⊥
false-true e = cc

value_within : (k : NumKind) (z : ℤ) (a b : Bool) → int_lt z (low_of k) ≡ a → int_lt (high_of k) z ≡ b → (not a && not b) ≡ true → IsValue k z
value_within k z true b e f is = absurd (false-true is)
value_within k z false true e f is = absurd (false-true is)
value_within k z false false e f is = record { above = grind (arith, ints); below = grind (arith, ints) }

pub value_by_test : (k : NumKind) (z : ℤ) → is_value k z ≡ true → IsValue k z
value_by_test k z is = value_within k z _ _ refl refl is

-- a value is what may stand to the right of each operator
pub value_right : (op : BinOp) (k : NumKind) (z : ℤ) → IsValue k z → IsRight op k z
value_right Add k z v = v
value_right Sub k z v = v
value_right Mul k z v = v
value_right Div k z v = v
value_right Rem k z v = v
value_right Shl k z v = tt
value_right Shr k z v = tt
value_right And k z v = v
value_right Or k z v = v
value_right Xor k z v = v
value_right Lt k z v = v
value_right Le k z v = v
value_right Gt k z v = v
value_right Ge k z v = v
value_right Eq k z v = v
value_right Ne k z v = v

pub number_operand : (op : BinOp) (k : NumKind) → is_pointer k ≡ false → is_operand_kind op k ≡ true
number_operand op k is = rw is refl
