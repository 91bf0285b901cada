-- The bits of a value are converted to it.
use Rattle.std.proofs.Common.{◌≡◌, ℕ, zero, suc, ◌+◌, ◌-◌, ◌%◌, ◌^◌, ◌<◌, ◌≤◌, Bool, true, false, refl, ap, ◌∙◌, arith, ℤ, pos, negsuc, ◌≤ℤ◌, ◌-ℤ◌}
use Rattle.std.specs.Prelude.{if◌then◌else◌, nat_lt}
use Rattle.std.proofs.lemmas.Int.{ints}
use Rattle.std.proofs.lemmas.Bool.Decides.{nat_tests}
use Rattle.std.proofs.Math.Nat.{mod-eq_of_lt}
use Rattle.dc_num.specs.declared.kind.NumKind.{NumKind}
use Rattle.dc_num.specs.declared.kind.NumKind.TheVariants.{Bool as Truth, S8, U8, S16, U16, S32, U32, S64, U64, Ptr}
use Rattle.dc_num.specs.Kinds.{bits_of, IsValue}
use Rattle.dc_num.specs.Conversions.{bits, value_of_bits, converted}
use Rattle.dc_num.proofs.Values.{bits-below, positive}

bits-pos : (k : NumKind) (n : ℕ) → n < 2 ^ bits_of k → bits k (pos n) ≡ n
unfolding bits
bits-pos k n lt = mod-eq_of_lt lt

-- two's complement, of which half of all values are negative
spelled_low : (half n : ℕ) (b : Bool) → nat_lt (half - 1) n ≡ b → n ≤ half - 1 → (if b then pos n -ℤ pos (half + half) else pos n) ≡ pos n
spelled_low half n true e le = let no : ⊥ = grind (arith, nat_tests) in absurd no
spelled_low half n false e le = refl

spelled_high : (half n : ℕ) (b : Bool) → nat_lt (half - 1) (half + half - 1 - n) ≡ b → n < half → (if b then pos (half + half - 1 - n) -ℤ pos (half + half) else pos (half + half - 1 - n)) ≡ negsuc n
spelled_high half n true e lt = omega (arith, ints)
spelled_high half n false e lt = let no : ⊥ = grind (arith, nat_tests) in absurd no

-- the value of a signed kind with so many negative values, and of an unsigned kind with so many values
signed-back : (k : NumKind) (half : ℕ) (z : ℤ) → 2 ^ bits_of k ≡ half + half → negsuc (half - 1) ≤ℤ z → z ≤ℤ pos (half - 1) → 0 < half
    → (if nat_lt (half - 1) (bits k z) then pos (bits k z) -ℤ pos (half + half) else pos (bits k z)) ≡ z
unfolding bits
signed-back k half (pos n) all above below some =
    let le : n ≤ half - 1 = omega (arith, ints, below) in
    let same : n % 2 ^ bits_of k ≡ n = mod-eq_of_lt (omega arith) in
    rw same (spelled_low half n _ refl le)
signed-back k half (negsuc n) all above below some =
    let lt : n < half = omega (arith, ints, above) in
    let same : n % 2 ^ bits_of k ≡ n = mod-eq_of_lt (omega arith) in
    rw (same, all) (spelled_high half n _ refl lt)

unsigned-back : (k : NumKind) (z : ℤ) → pos 0 ≤ℤ z → z ≤ℤ pos (2 ^ bits_of k - 1) → pos (bits k z) ≡ z
unfolding bits
unsigned-back k (pos n) above below =
    let some = positive k in
    let lt : n < 2 ^ bits_of k = omega (arith, ints, below, some) in
    ap pos (mod-eq_of_lt lt)
unsigned-back k (negsuc n) above below = let no : ⊥ = omega (arith, ints, above) in absurd no

converted-truth : (z : ℤ) → IsValue Truth z → converted Truth z ≡ z
unfolding converted
converted-truth (pos zero) v = refl
converted-truth (pos (suc zero)) v = refl
converted-truth (pos (suc (suc n))) v = let no : ⊥ = omega (arith, ints, v.below) in absurd no
converted-truth (negsuc n) v = let no : ⊥ = omega (arith, ints, v.above) in absurd no

-- a value is converted to itself
converted-value : (k : NumKind) (z : ℤ) → IsValue k z → converted k z ≡ z
unfolding converted
converted-value Truth z v = converted-truth z v
converted-value S8 z v = signed-back S8 (2 ^ 7) z refl v.above v.below (omega arith)
converted-value U8 z v = unsigned-back U8 z v.above v.below
converted-value S16 z v = signed-back S16 (2 ^ 15) z refl v.above v.below (omega arith)
converted-value U16 z v = unsigned-back U16 z v.above v.below
converted-value S32 z v = signed-back S32 (2 ^ 31) z refl v.above v.below (omega arith)
converted-value U32 z v = unsigned-back U32 z v.above v.below
converted-value S64 z v = signed-back S64 (2 ^ 63) z refl v.above v.below (omega arith)
converted-value U64 z v = unsigned-back U64 z v.above v.below
converted-value Ptr z v = unsigned-back Ptr z v.above v.below

-- the bits of a value are converted to it
pub converted-bits : (k : NumKind) (z : ℤ) → IsValue k z → converted k (pos (bits k z)) ≡ z
unfolding converted
converted-bits Truth z v = ap (converted Truth) (unsigned-back Truth z v.above v.below) ∙ converted-truth z v
converted-bits S8 z v = ap (value_of_bits S8) (bits-pos S8 (bits S8 z) (bits-below S8 z)) ∙ converted-value S8 z v
converted-bits U8 z v = ap (value_of_bits U8) (bits-pos U8 (bits U8 z) (bits-below U8 z)) ∙ converted-value U8 z v
converted-bits S16 z v = ap (value_of_bits S16) (bits-pos S16 (bits S16 z) (bits-below S16 z)) ∙ converted-value S16 z v
converted-bits U16 z v = ap (value_of_bits U16) (bits-pos U16 (bits U16 z) (bits-below U16 z)) ∙ converted-value U16 z v
converted-bits S32 z v = ap (value_of_bits S32) (bits-pos S32 (bits S32 z) (bits-below S32 z)) ∙ converted-value S32 z v
converted-bits U32 z v = ap (value_of_bits U32) (bits-pos U32 (bits U32 z) (bits-below U32 z)) ∙ converted-value U32 z v
converted-bits S64 z v = ap (value_of_bits S64) (bits-pos S64 (bits S64 z) (bits-below S64 z)) ∙ converted-value S64 z v
converted-bits U64 z v = ap (value_of_bits U64) (bits-pos U64 (bits U64 z) (bits-below U64 z)) ∙ converted-value U64 z v
converted-bits Ptr z v = ap (value_of_bits Ptr) (bits-pos Ptr (bits Ptr z) (bits-below Ptr z)) ∙ converted-value Ptr z v
