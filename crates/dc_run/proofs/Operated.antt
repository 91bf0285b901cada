-- What is left beside a quotient, of numbers that may be wider than ints.
use Rattle.std.proofs.Common.{◌≡◌, ◌∙◌, zero, suc, ◌<◌, Bool, true, false, Option, Some, None, refl, ap, arith, ℤ, pos, negsuc, ◌-ℤ◌, ◌*ℤ◌, of_z, FitsSigned}
use Rattle.std.specs.Prelude.{if◌then◌else◌, int_div, int_rem}
use Rattle.std.specs.Int.{CanDivide}
use Rattle.std.specs.Option.{SomeIff, option_map}
use Rattle.std.specs.Ordering.{int_eq}
use Rattle.std.proofs.lemmas.Int.{ints, fits_signed_from_abs}
use Rattle.dc_num.specs.declared.kind.NumKind.TheVariants.{S32}
use Rattle.dc_num.specs.Kinds.{is_value, IsValue}
use Rattle.dc_num.specs.Operators.{quotient, remainder}
use Rattle.dc_num.proofs.Machine.{abs-wide, rem-is}
use Rattle.dc_num.proofs.Values.{IsValue-wide, value_by_test}
use mir.Syntax.{w128}

fits : (z : ℤ) → IsValue S32 z → FitsSigned w128 z
fits z v = fits_signed_from_abs w128 z (omega (arith, abs-wide z (IsValue-wide S32 z v)))

nonzero-bits : (b : ℤ) → FitsSigned w128 b → int_eq b (pos 0) ≡ false → 0 < of_z w128 b
nonzero-bits (pos zero) f e = cc
nonzero-bits (pos (suc n)) f e = omega (arith, ints)
nonzero-bits (negsuc n) f e = omega (arith, ints)

pub remainder-left : (a b q : ℤ) (r : Option ℤ) → FitsSigned w128 b → Some q ≡ quotient S32 a b → SomeIff r (CanDivide w128 a b) (int_rem a b) → r ≡ remainder S32 a b
remainder-left a b q r f h s = by (int_eq b (pos 0)) (is_value S32 (int_div a b)) refl refl h
  where
    left : (r : Option ℤ) → SomeIff r (CanDivide w128 a b) (int_rem a b) → CanDivide w128 a b → r ≡ Some (a -ℤ int_div a b *ℤ b)
    left None s can = absurd (s can)
    left (Some x) s can = ap Some (s.1 ∙ rem-is a b)

    by : (t u : Bool) → int_eq b (pos 0) ≡ t → is_value S32 (int_div a b) ≡ u → Some q ≡ (if t then None else (if u then Some (int_div a b) else None))
        → r ≡ option_map (λ q. a -ℤ q *ℤ b) (if t then None else (if u then Some (int_div a b) else None))
    by true u e d h = cc
    by false false e d h = cc
    by false true e d h = left r s (nonzero-bits b f e, fits (int_div a b) (value_by_test S32 (int_div a b) d))
