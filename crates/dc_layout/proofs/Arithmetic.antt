-- Capped sizes: what is computed of them is the capped result.
use Rattle.std.proofs.Common.{◌≡◌, ℕ, zero, suc, ◌+◌, ◌*◌, ◌≤◌, min, max, Option, Some, None, refl, ap, arith}
use Rattle.std.specs.Prelude.{Bool, true, false, ◌==◌, if◌then◌else◌}
use Rattle.std.specs.Option.{option_map, option_and_then}
use Rattle.std.specs.Int.{next_multiple_of}
use Rattle.dc_layout.specs.declared.capped.Capped.{Capped}
use Rattle.dc_layout.specs.Layout.{Extent, repeated}
use Rattle.dc_layout.specs.Kept.{capped, capped_size, capped_array, capped_with}

min-mul-min : (n s m : ℕ) → min (n * min s m) m ≡ min (n * s) m
min-mul-min zero s m = omega arith
min-mul-min (suc n) s m = grind arith

pub capped_size-mul : (n s : ℕ) → capped_size (n * capped_size s) ≡ capped_size (n * s)
capped_size-mul n s = min-mul-min n s 16777217

-- an array of capped elements
capped_array-capped : (n : ℕ) (x : Extent) → capped_array (capped x) n ≡ option_map capped (repeated n x)
capped_array-capped n x = chosen (n == 0)
  where
    chosen : (none : Bool)
        → (if none then None else Some (record { size = capped_size (n * capped_size x.size); align = x.align }))
        ≡ option_map capped (if none then None else Some (record { size = n * x.size; align = x.align }))
    chosen true = refl
    chosen false =
        let made : ℕ → Capped = λ m. record { size = m; align = x.align } in
        ap (λ m. Some (made m)) (capped_size-mul n x.size)

pub array_extent : (o : Option Extent) (n : ℕ) (k : Capped) → Some k ≡ option_map capped o → capped_array k n ≡ option_map capped (option_and_then (repeated n) o)
array_extent None n k e = cc
array_extent (Some x) n k e =
    let same : k ≡ capped x = cc in
    rw same (capped_array-capped n x)

min-next : (m e n n' : ℕ) → e ≤ n → min e m ≤ n' → (e ≤ m → n' ≡ n) → (s : ℕ) → min (n' + min s m) m ≡ min (n + s) m
min-next m e n n' le le' same s = grind arith

next_multiple_of-min : (m e a : ℕ) → e ≤ m → next_multiple_of (min e m) a ≡ next_multiple_of e a
next_multiple_of-min m e a le = let same : min e m ≡ e = omega arith in rw same refl

-- a capped size at the next multiple, with more behind it
pub capped_size-next : (e a s : ℕ) → capped_size (next_multiple_of (capped_size e) a + capped_size s) ≡ capped_size (next_multiple_of e a + s)
capped_size-next e a s = min-next 16777217 e (next_multiple_of e a) (next_multiple_of (min e 16777217) a) (omega arith) (omega arith) (next_multiple_of-min 16777217 e a) s

-- a member behind capped ones
pub capped_with-capped : (a b : Extent) → capped_with (capped a) (capped b) ≡ capped (record { size = next_multiple_of a.size b.align + b.size; align = max a.align b.align })
capped_with-capped a b = ap (λ m. record { size = m; align = max a.align b.align }) (capped_size-next a.size b.align b.size)
