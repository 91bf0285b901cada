-- What the code's arithmetic on 128 bits gives.
use Rattle.std.proofs.Common.{◌≡◌, ℕ, zero, suc, ◌+◌, ◌-◌, ◌%◌, ◌/◌, ◌*◌, ◌^◌, ◌<◌, ◌≤◌, Bool, true, false, Option, None, Some, refl, ap, sym, ◌∙◌, arith, ℤ, pos, negsuc, ◌≤ℤ◌, ◌+ℤ◌, ◌-ℤ◌, ◌*ℤ◌, neg_ℤ, pow_mono, to_z, of_z, FitsSigned}
use Rattle.std.specs.Prelude.{is_some, unsigned_abs, int_div, int_rem, if◌then◌else◌}
use Rattle.std.specs.Int.{int_div_euclid, int_rem_euclid}
use Rattle.std.specs.Option.{option_map}
use Rattle.std.specs.Ordering.{int_eq}
use Rattle.std.proofs.lemmas.Int.{ints, to_z-of_z, to_z_pos, fits_signed_mul, quot_is, rem_is, quot-rem}
use Rattle.std.proofs.lemmas.Bool.Decides.{nat_tests}
use Rattle.std.proofs.Math.Nat.{div-le_self, mul-le-mul, mod-eq_of_lt}
use Rattle.dc_num.specs.declared.kind.NumKind.{NumKind}
use Rattle.dc_num.specs.Kinds.{IsValue, bits_of, is_signed, is_value}
use Rattle.dc_num.specs.Operators.{settled, quotient, remainder}
use Rattle.dc_num.proofs.Values.{positive, IsWide}
use lib.Signed.{shr_z, mag_shr}
use mir.Syntax.{w128}

pub sum-read : (a b : ℤ) → IsWide a → IsWide b → to_z w128 (of_z w128 (to_z w128 (of_z w128 a) +ℤ to_z w128 (of_z w128 b))) ≡ a +ℤ b
sum-read a b p q = omega (arith, ints)

pub difference-read : (a b : ℤ) → IsWide a → IsWide b → to_z w128 (of_z w128 (to_z w128 (of_z w128 a) -ℤ to_z w128 (of_z w128 b))) ≡ a -ℤ b
difference-read a b p q = omega (arith, ints)

pub negative-read : (a : ℤ) → IsWide a → to_z w128 (of_z w128 (pos 0 -ℤ to_z w128 (of_z w128 a))) ≡ neg_ℤ a
negative-read a p = omega (arith, ints)

pub product-read : (a b : ℤ) → FitsSigned w128 a → FitsSigned w128 b → FitsSigned w128 (a *ℤ b)
    → to_z w128 (of_z w128 (to_z w128 (of_z w128 a) *ℤ to_z w128 (of_z w128 b))) ≡ a *ℤ b
product-read a b f g h = rw (to_z-of_z w128 a f, to_z-of_z w128 b g) (to_z-of_z w128 (a *ℤ b) h)

quotient-by : (k : NumKind) (a b : ℤ) (t : Bool) → t ≡ false → settled k (int_div a b) ≡ (if t then None else settled k (int_div a b))
quotient-by k a b t e = rw e refl

-- a number whose bits aren't 0 is not 0
nonzero : (b : ℤ) → (of_z w128 b ≡ 0 → ⊥) → int_eq b (pos 0) ≡ false
nonzero (pos zero) n = absurd (n refl)
nonzero (pos (suc m)) n = grind (arith, nat_tests)
nonzero (negsuc m) n = refl

pub quotient-read : (k : NumKind) (a b : ℤ) → FitsSigned w128 a → FitsSigned w128 b → FitsSigned w128 (int_div a b) → (of_z w128 b ≡ 0 → ⊥)
    → settled k (to_z w128 (of_z w128 (int_div (to_z w128 (of_z w128 a)) (to_z w128 (of_z w128 b))))) ≡ quotient k a b
quotient-read k a b f g h n = ap (settled k) (quot_is w128 a b f g h) ∙ quotient-by k a b (int_eq b (pos 0)) (nonzero b n)

-- an unsigned quotient is a value
unsigned_quotient : (m : ℕ) (a b : ℤ) → 0 < m → pos 0 ≤ℤ a → a ≤ℤ pos (m - 1) → pos 0 ≤ℤ b → int_rem_euclid (int_div a b) (pos m) ≡ int_div a b
unsigned_quotient m (pos a) (pos b) some above below right = let h : a ≤ m - 1 = omega (arith, ints, below) in ap pos (mod-eq_of_lt (omega (arith, h, some, div-le_self a b)))
unsigned_quotient m (pos a) (negsuc b) some above below right = let no : ⊥ = omega (arith, ints, right) in absurd no
unsigned_quotient m (negsuc a) b some above below right = let no : ⊥ = omega (arith, ints, above) in absurd no

tested : (z : ℤ) (t : Bool) → is_some (if t then Some z else None) ≡ true → (if t then Some z else None) ≡ Some z
tested z true some = refl
tested z false some = cc

abbrev settled_if : Bool → NumKind → ℤ → Option ℤ
settled_if s k z = if s then (if is_value k z then Some z else None) else Some (int_rem_euclid z (pos (2 ^ bits_of k)))

-- a quotient that has a value is that value
pub quotient_value : (k : NumKind) (a b : ℤ) → IsValue k a → IsValue k b → is_some (settled k (int_div a b)) ≡ true → settled k (int_div a b) ≡ Some (int_div a b)
quotient_value k a b left right some = by (is_signed k) refl some
  where
    by : (s : Bool) → is_signed k ≡ s → is_some (settled_if s k (int_div a b)) ≡ true → settled_if s k (int_div a b) ≡ Some (int_div a b)
    by true e some = tested (int_div a b) (is_value k (int_div a b)) some
    by false e some = ap Some (unsigned_quotient (2 ^ bits_of k) a b (positive k) (rw e at left.above) (rw e at left.below) (rw e at right.above))

pub rem-is : (a b : ℤ) → int_rem a b ≡ a -ℤ int_div a b *ℤ b
rem-is a b = omega (arith, ints, quot-rem a b)

nonzero-quotient : (k : NumKind) (a b : ℤ) (t : Bool) → t ≡ false → (if t then None else settled k (int_div a b)) ≡ settled k (int_div a b)
nonzero-quotient k a b t e = rw e refl

-- what the code's remainder gives, where there is a quotient
pub remainder-read : (k : NumKind) (a b : ℤ) (q : Option ℤ) → FitsSigned w128 a → FitsSigned w128 b → IsValue k a → IsValue k b → (of_z w128 b ≡ 0 → ⊥) → q ≡ quotient k a b → is_some q ≡ true
    → Some (to_z w128 (of_z w128 (int_rem (to_z w128 (of_z w128 a)) (to_z w128 (of_z w128 b))))) ≡ remainder k a b
remainder-read k a b q f g left right n is some =
    let plain : quotient k a b ≡ settled k (int_div a b) = nonzero-quotient k a b (int_eq b (pos 0)) (nonzero b n) in
    let value : quotient k a b ≡ Some (int_div a b) = plain ∙ quotient_value k a b left right (ap is_some (sym plain ∙ sym is) ∙ some) in
    ap Some (rem_is w128 a b f g ∙ rem-is a b) ∙ sym (ap (option_map (λ q. a -ℤ q *ℤ b)) value)

pub remainder-none : (k : NumKind) (a b : ℤ) (q : Option ℤ) → q ≡ quotient k a b → is_some q ≡ false → None ≡ remainder k a b
remainder-none k a b None is none = ap (option_map (λ q. a -ℤ q *ℤ b)) is
remainder-none k a b (Some q) is none = cc

-- what the code has of the operands
pub quotient-same : (k : NumKind) (a b : ℤ) → FitsSigned w128 a → FitsSigned w128 b → quotient k (to_z w128 (of_z w128 a)) (to_z w128 (of_z w128 b)) ≡ quotient k a b
quotient-same k a b f g = rw (to_z-of_z w128 a f, to_z-of_z w128 b g) refl

abs-neg : (n : ℕ) → unsigned_abs (neg_ℤ (pos n)) ≡ n
abs-neg zero = refl
abs-neg (suc n) = refl

-- a quotient is no larger than what is divided
pub abs-quotient : (a b : ℤ) → unsigned_abs (int_div a b) ≤ unsigned_abs a
abs-quotient (pos a) (pos b) = div-le_self a b
abs-quotient (pos a) (negsuc b) = rw abs-neg (div-le_self a (suc b))
abs-quotient (negsuc a) (pos b) = rw abs-neg (div-le_self (suc a) b)
abs-quotient (negsuc a) (negsuc b) = div-le_self (suc a) (suc b)

pub abs-wide : (z : ℤ) → IsWide z → unsigned_abs z ≤ 2 ^ 65
abs-wide z w = omega (arith, ints)

-- a small number that is moved below 64 places stays below 127
pub moved-small : (a n : ℕ) → a < 2 ^ 64 → n < 64 → a * 2 ^ n < 2 ^ 127
moved-small a n h k =
    let few : n ≤ 63 = omega arith in
    let power : 2 ^ n ≤ 2 ^ 63 = pow_mono few in
    let low : a ≤ 2 ^ 64 - 1 = omega arith in
    let bound : a * 2 ^ n ≤ (2 ^ 64 - 1) * 2 ^ 63 = mul-le-mul low power in
    omega (arith, bound)

-- what the code's shift to the left gives
pub moved-read : (n : ℕ) → n < 2 ^ 127 → to_z w128 (n % 2 ^ 128) ≡ pos n
moved-read n h = let e : n % 2 ^ 128 ≡ n = mod-eq_of_lt (omega arith) in rw e (to_z_pos w128 n h)

pub shr_z-is : (a : ℤ) (m : ℕ) → shr_z a m ≡ int_div_euclid a (pos m)
shr_z-is (pos a) m = refl
shr_z-is (negsuc a) m = refl

-- what the code's shift to the right gives
pub lowered-read : (a : ℤ) (m : ℕ) → FitsSigned w128 a → to_z w128 (of_z w128 (shr_z (to_z w128 (of_z w128 a)) m)) ≡ int_div_euclid a (pos m)
lowered-read a m f = rw (to_z-of_z w128 a f) (to_z-of_z w128 (shr_z a m) (record { sfits = omega (arith, mag_shr a m, f.sfits) }) ∙ shr_z-is a m)
