-- Objects behind a memory, and what is loaded and stored there.
use Rattle.std.proofs.Common.{◌≡◌, ℕ, suc, ◌^◌, ◌<◌, ◌≤◌, Bool, true, false, [], ◌∷◌, ◌++◌, length, Some, None, refl, ap, arith, ℤ}
use Rattle.std.specs.Prelude.{replicate, if◌then◌else◌}
use Rattle.dc_memory.specs.declared.kind.MemKind.TheVariants.{S32}
use Rattle.dc_memory.specs.declared.object.Object.{Object}
use Rattle.dc_memory.specs.declared.object.ObjKind.TheVariants.{Stack}
use Rattle.dc_memory.specs.Conversions.{bits, converted}
use Rattle.dc_memory.specs.Objects.{Memory, object_at, update, changed, holding}
use Rattle.dc_memory.specs.Places.{start_of, object_of, offset_of, put_at, with_bytes, holds_range, is_inside}
use Rattle.dc_memory.specs.Encoding.{encoded}
use Rattle.dc_memory.specs.Access.{load, store}
use Rattle.dc_num.specs.declared.kind.NumKind.TheVariants as num
use Rattle.dc_num.specs.Conversions.{bits as num_bits, converted as num_converted}
use Rattle.dc_core.proofs.Numbers.{HasInt, IsValue-converted}

pub object_of-start_of : (n : ℕ) → object_of (start_of n) ≡ n
unfolding object_of start_of
object_of-start_of n = omega arith

pub offset_of-start_of : (n : ℕ) → offset_of (start_of n) ≡ 0
unfolding offset_of start_of
offset_of-start_of n = omega arith

pub start_of-small : (n : ℕ) → n ≤ 65535 → start_of n < 2 ^ 64
unfolding start_of
start_of-small n h = omega arith

pub object_at-new : (memory : Memory) (o : Object) → object_at (memory ++ o ∷ []) (suc (length memory)) ≡ Some o
object_at-new [] o = refl
object_at-new (x ∷ memory) o = object_at-new memory o

pub update-new : (memory : Memory) (o : Object) (change : Object → Object) → update (length memory) change (memory ++ o ∷ []) ≡ memory ++ change o ∷ []
update-new [] o change = refl
update-new (x ∷ memory) o change = ap (λ m. x ∷ m) (update-new memory o change)

put_at-all : (z : ℤ) → put_at 0 (encoded S32 z) (replicate 4 0) ≡ encoded S32 z
put_at-all z = refl

-- an int is stored in a new object of four bytes
pub store-new : (memory : Memory) (z : ℤ) → store S32 (start_of (suc (length memory))) z (memory ++ holding Stack (replicate 4 0) ∷ []) ≡ Some (memory ++ holding Stack (encoded S32 z) ∷ [])
unfolding store
store-new memory z =
    by (object_of p) (offset_of p) (object_of-start_of n) (offset_of-start_of n)
  where
    n : ℕ
    n = suc (length memory)

    p : ℕ
    p = start_of n

    fresh : Memory
    fresh = memory ++ holding Stack (replicate 4 0) ∷ []

    by : (object offset : ℕ) → object ≡ suc (length memory) → offset ≡ 0
        → (if holds_range (object_at (memory ++ holding Stack (replicate 4 0) ∷ []) object) offset 4 then Some (changed object (with_bytes offset (encoded S32 z)) (memory ++ holding Stack (replicate 4 0) ∷ [])) else None)
        ≡ Some (memory ++ holding Stack (encoded S32 z) ∷ [])
    by object offset eo ef =
        rw (eo, ef, object_at-new memory (holding Stack (replicate 4 0)))
        (ap Some (update-new memory (holding Stack (replicate 4 0)) (with_bytes 0 (encoded S32 z))))

-- conversion is the same for numbers in memory
converted-int : (z : ℤ) → converted S32 z ≡ num_converted num.S32 z
unfolding converted bits num_converted num_bits
converted-int z = refl

-- what is loaded is an int
pub HasInt-load : (pointer : ℕ) (memory : Memory) → HasInt (load S32 pointer memory)
unfolding load
HasInt-load pointer memory = by (is_inside memory pointer 4) _
  where
    by : (b : Bool) (z : ℤ) → HasInt (if b then Some (converted S32 z) else None)
    by true z = rw (converted-int z) (IsValue-converted num.S32 z)
    by false z = tt
