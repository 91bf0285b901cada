-- The values of kinds are kept by conversions and made by operators.
use Rattle.std.proofs.Common.{◌≡◌, ◌∙◌, ℕ, suc, subst, ◌-◌, ◌*◌, ◌%◌, ◌^◌, ◌<◌, ◌≤◌, Bool, true, false, Option, Some, None, refl, ap, sym, arith, ℤ, pos, negsuc, ◌≤ℤ◌, ◌+ℤ◌, ◌-ℤ◌, ◌*ℤ◌}
use Rattle.std.specs.Prelude.{if◌then◌else◌, int_lt, int_div, int_rem, is_some, nat_lt, not, unsigned_abs}
use Rattle.std.specs.Int.{int_div_euclid, int_rem_euclid}
use Rattle.std.specs.Option.{option_map}
use Rattle.std.specs.Ordering.{int_eq}
use Rattle.std.proofs.lemmas.Int.{ints}
use Rattle.std.proofs.lemmas.Nat.{and_le_l, or_lt, xor_lt}
use Rattle.std.proofs.lemmas.Bool.Decides.{nat_tests}
use Rattle.std.proofs.Math.Nat.{div-le_self, mod-eq_of_lt, mod-le, mod-lt}
use Rattle.dc_num.specs.Kinds.{bits_of, is_signed, is_value, low_of, high_of, IsValue}
use Rattle.dc_num.specs.Conversions.{bits, converted, truth, value_of_bits}
use Rattle.dc_num.specs.Operators.{binary_of, is_operand_kind, remainder, settled, shifted_left, shifted_right}
use Rattle.dc_num.specs.declared.kind.NumKind.{NumKind}
use Rattle.dc_num.specs.declared.kind.NumKind.TheVariants.{Bool as Truth, S8, U8, S16, U16, S32, U32, S64, U64, Ptr}
use Rattle.dc_num.specs.declared.operators.BinOp.{BinOp}
use Rattle.dc_num.specs.declared.operators.BinOp.TheVariants.{Add, Sub, Mul, Div, Rem, Shl, Shr, And, Or, Xor, Lt, Le, Gt, Ge, Eq, Ne}
use Rattle.dc_num.proofs.Machine.{quotient_value, rem-is}
use Rattle.dc_num.proofs.Values.{IsValue-value_of_bits, bits-below, positive, value_by_test}
use Rattle.dc_core.specs.Number.{computed}

pub bits-small : (n : ℕ) → n < 2 ^ 64 → bits U64 (pos n) ≡ n
unfolding bits
bits-small n h = mod-eq_of_lt h

spelled_s32 : (n m : ℕ) → m ≡ n → n ≤ 2 ^ 31 - 1 → value_of_bits S32 m ≡ pos n
spelled_s32 n m e h = grind (arith, nat_tests)

spelled_negative : (a m : ℕ) → m ≡ 2 ^ 32 - 1 - a → a ≤ 2 ^ 31 - 1 → value_of_bits S32 m ≡ negsuc a
spelled_negative a m e h =
    let t : nat_lt (2 ^ 31 - 1) m ≡ true = grind (arith, nat_tests) in
    let d : pos m -ℤ pos (2 ^ 32) ≡ negsuc a = omega (arith, ints) in
    rw t d

-- a value is kept
pub converted-value : (z : ℤ) → IsValue S32 z → converted S32 z ≡ z
unfolding converted bits
converted-value (pos n) v =
    let h : n ≤ 2 ^ 31 - 1 = omega (arith, ints, v.below) in
    spelled_s32 n (n % 2 ^ 32) (mod-eq_of_lt (omega arith)) h
converted-value (negsuc a) v =
    let h : a ≤ 2 ^ 31 - 1 = omega (arith, ints, v.above) in
    let e : a % 2 ^ 32 ≡ a = mod-eq_of_lt (omega arith) in
    spelled_negative a (2 ^ 32 - 1 - a % 2 ^ 32) (ap (λ x. 2 ^ 32 - 1 - x) e) h

-- 0 and 1 are values of each kind
record HasBits (k : NumKind) : Type 0 where
  pub above : low_of k ≤ℤ pos 0
  pub below : pos 1 ≤ℤ high_of k

has_bits : (k : NumKind) → HasBits k
has_bits Truth = record { above = omega (arith, ints); below = omega (arith, ints) }
has_bits S8 = record { above = omega (arith, ints); below = omega (arith, ints) }
has_bits U8 = record { above = omega (arith, ints); below = omega (arith, ints) }
has_bits S16 = record { above = omega (arith, ints); below = omega (arith, ints) }
has_bits U16 = record { above = omega (arith, ints); below = omega (arith, ints) }
has_bits S32 = record { above = omega (arith, ints); below = omega (arith, ints) }
has_bits U32 = record { above = omega (arith, ints); below = omega (arith, ints) }
has_bits S64 = record { above = omega (arith, ints); below = omega (arith, ints) }
has_bits U64 = record { above = omega (arith, ints); below = omega (arith, ints) }
has_bits Ptr = record { above = omega (arith, ints); below = omega (arith, ints) }

pub IsValue-truth : (k : NumKind) (b : Bool) → IsValue k (truth b)
IsValue-truth k true = let s = has_bits k in record { above = omega (arith, ints, s.above); below = s.below }
IsValue-truth k false = let s = has_bits k in record { above = s.above; below = omega (arith, ints, s.below) }

-- a conversion gives a value
pub IsValue-converted : (k : NumKind) (z : ℤ) → IsValue k (converted k z)
unfolding converted
IsValue-converted Truth z = IsValue-truth Truth (not (int_eq z (pos 0)))
IsValue-converted S8 z = IsValue-value_of_bits S8 (bits S8 z) (bits-below S8 z)
IsValue-converted U8 z = IsValue-value_of_bits U8 (bits U8 z) (bits-below U8 z)
IsValue-converted S16 z = IsValue-value_of_bits S16 (bits S16 z) (bits-below S16 z)
IsValue-converted U16 z = IsValue-value_of_bits U16 (bits U16 z) (bits-below U16 z)
IsValue-converted S32 z = IsValue-value_of_bits S32 (bits S32 z) (bits-below S32 z)
IsValue-converted U32 z = IsValue-value_of_bits U32 (bits U32 z) (bits-below U32 z)
IsValue-converted S64 z = IsValue-value_of_bits S64 (bits S64 z) (bits-below S64 z)
IsValue-converted U64 z = IsValue-value_of_bits U64 (bits U64 z) (bits-below U64 z)
IsValue-converted Ptr z = IsValue-value_of_bits Ptr (bits Ptr z) (bits-below Ptr z)

-- a value, where there is one
abbrev pub HasValue : NumKind → Option ℤ → Type 0
HasValue k None = Unit {0}
HasValue k (Some z) = IsValue k z

abbrev pub HasInt : Option ℤ → Type 0
HasInt o = HasValue S32 o

HasValue-if : (k : NumKind) (t : Bool) (o : Option ℤ) → HasValue k o → HasValue k (if t then o else None)
HasValue-if k true o h = h
HasValue-if k false o h = tt

residue : (k : NumKind) (z : ℤ) → is_signed k ≡ false → IsValue k (int_rem_euclid z (pos (2 ^ bits_of k)))
residue k (pos n) e = let h = mod-lt n (positive k) in record { above = rw e (omega (arith, ints)); below = rw e (omega (arith, ints, h)) }
residue k (negsuc n) e = let h = positive k in record { above = rw e (omega (arith, ints)); below = rw e (omega (arith, ints, h)) }

HasValue-settled : (k : NumKind) (z : ℤ) → HasValue k (settled k z)
HasValue-settled k z = by (is_signed k) refl
  where
    fits : (t : Bool) → is_value k z ≡ t → HasValue k (if t then Some z else None)
    fits true e = value_by_test k z e
    fits false e = tt

    by : (s : Bool) → is_signed k ≡ s → HasValue k (if s then (if is_value k z then Some z else None) else Some (int_rem_euclid z (pos (2 ^ bits_of k))))
    by true e = fits (is_value k z) refl
    by false e = residue k z e

IsValue-rem : (k : NumKind) (a b : ℤ) → IsValue k a → IsValue k (int_rem a b)
IsValue-rem k (pos a) b v =
    let s = has_bits k in
    let h = mod-le a (unsigned_abs b) in
    record { above = omega (arith, ints, s.above); below = omega (arith, ints, h, v.below) }
IsValue-rem k (negsuc a) b v =
    let s = has_bits k in
    let h = mod-le (suc a) (unsigned_abs b) in
    record { above = omega (arith, ints, h, v.above); below = omega (arith, ints, s.below) }

HasValue-remainder : (k : NumKind) (a b : ℤ) → IsValue k a → IsValue k b → HasValue k (remainder k a b)
HasValue-remainder k a b left right = by (int_eq b (pos 0)) (settled k (int_div a b)) refl
  where
    some_is : (x y : ℤ) → Some x ≡ Some y → x ≡ y
    some_is x y h = cc

    by : (t : Bool) (o : Option ℤ) → settled k (int_div a b) ≡ o → HasValue k (option_map (λ q. a -ℤ q *ℤ b) (if t then None else o))
    by true o e = tt
    by false None e = tt
    by false (Some q) e =
        let d : int_div a b ≡ q = some_is (int_div a b) q (sym (quotient_value k a b left right (ap is_some e)) ∙ e) in
        subst (IsValue k) (rem-is a b ∙ ap (λ q. a -ℤ q *ℤ b) d) (IsValue-rem k a b left)

IsValue-lowered : (k : NumKind) (a : ℤ) (m : ℕ) → IsValue k a → IsValue k (int_div_euclid a (pos m))
IsValue-lowered k (pos a) m v =
    let s = has_bits k in
    let h = div-le_self a m in
    record { above = omega (arith, ints, s.above); below = omega (arith, ints, h, v.below) }
IsValue-lowered k (negsuc a) m v =
    let s = has_bits k in
    let h = div-le_self a m in
    record { above = omega (arith, ints, h, v.above); below = omega (arith, ints, s.below) }

HasValue-shifted_left : (k : NumKind) (a n : ℤ) → HasValue k (shifted_left k a n)
HasValue-shifted_left k (pos a) (pos n) = HasValue-if k (nat_lt n (bits_of k)) (settled k (pos (a * 2 ^ n))) (HasValue-settled k (pos (a * 2 ^ n)))
HasValue-shifted_left k (pos a) (negsuc n) = tt
HasValue-shifted_left k (negsuc a) (pos n) = tt
HasValue-shifted_left k (negsuc a) (negsuc n) = tt

HasValue-shifted_right : (k : NumKind) (a n : ℤ) → IsValue k a → HasValue k (shifted_right k a n)
HasValue-shifted_right k a (pos n) v = HasValue-if k (nat_lt n (bits_of k)) (Some (int_div_euclid a (pos (2 ^ n)))) (IsValue-lowered k a (2 ^ n) v)
HasValue-shifted_right k a (negsuc n) v = tt

HasValue-binary_of : (op : BinOp) (k : NumKind) (a b : ℤ) → IsValue k a → IsValue k b → HasValue k (binary_of op k a b)
unfolding binary_of
HasValue-binary_of Add k a b left right = HasValue-settled k (a +ℤ b)
HasValue-binary_of Sub k a b left right = HasValue-settled k (a -ℤ b)
HasValue-binary_of Mul k a b left right = HasValue-settled k (a *ℤ b)
HasValue-binary_of Div k a b left right = by (int_eq b (pos 0))
  where
    by : (t : Bool) → HasValue k (if t then None else settled k (int_div a b))
    by true = tt
    by false = HasValue-settled k (int_div a b)
HasValue-binary_of Rem k a b left right = HasValue-remainder k a b left right
HasValue-binary_of Shl k a b left right = HasValue-shifted_left k a b
HasValue-binary_of Shr k a b left right = HasValue-shifted_right k a b left
HasValue-binary_of And k a b left right = IsValue-value_of_bits k _ (omega (arith, and_le_l (bits k a) (bits k b), bits-below k a))
HasValue-binary_of Or k a b left right = IsValue-value_of_bits k _ (or_lt (bits_of k) (bits k a) (bits k b) (bits-below k a) (bits-below k b))
HasValue-binary_of Xor k a b left right = IsValue-value_of_bits k _ (xor_lt (bits_of k) (bits k a) (bits k b) (bits-below k a) (bits-below k b))
HasValue-binary_of Lt k a b left right = IsValue-truth k (int_lt a b)
HasValue-binary_of Le k a b left right = IsValue-truth k (not (int_lt b a))
HasValue-binary_of Gt k a b left right = IsValue-truth k (int_lt b a)
HasValue-binary_of Ge k a b left right = IsValue-truth k (not (int_lt a b))
HasValue-binary_of Eq k a b left right = IsValue-truth k (int_eq a b)
HasValue-binary_of Ne k a b left right = IsValue-truth k (not (int_eq a b))

-- an operator gives a value
pub HasValue-computed : (op : BinOp) (k : NumKind) (a b : ℤ) → IsValue k a → IsValue k b → HasValue k (computed op k a b)
unfolding computed
HasValue-computed op k a b left right = HasValue-if k (is_operand_kind op k) (binary_of op k a b) (HasValue-binary_of op k a b left right)
