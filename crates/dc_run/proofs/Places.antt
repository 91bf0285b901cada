-- Places from 2^64 on: so few objects have none there.
use Rattle.std.proofs.Common.{◌≡◌, ℕ, zero, suc, ◌+◌, ◌*◌, ◌++◌, ◌^◌, ◌<◌, ◌≤◌, true, false, List, [], ◌∷◌, length, Option, Some, None, refl, ap, sym, ◌∙◌, arith, ℤ, append-nil}
use Rattle.std.specs.Prelude.{if◌then◌else◌, Bool, replicate}
use Rattle.dc_memory.specs.declared.kind.MemKind.TheVariants.{S32}
use Rattle.dc_memory.specs.declared.object.Object.{Object}
use Rattle.dc_memory.specs.declared.object.ObjKind.TheVariants.{Stack}
use Rattle.dc_memory.specs.Objects.{Memory, object_at, update, changed, holding}
use Rattle.dc_memory.specs.Places.{object_of, offset_of, with_bytes, holds_range, is_inside, start_of}
use Rattle.dc_memory.specs.Encoding.{encoded}
use Rattle.dc_memory.specs.Access.{load, store, IsWritten}
use Rattle.dc_core.specs.Objects.{died, kill_all}
use Rattle.dc_core.proofs.Objects.{store-new}
use Rattle.dc_core.specs.Contract.{WriteSet, with_ranges, denoted}

object_of-large : (place : ℕ) → 2 ^ 64 ≤ place → 65535 < object_of place
unfolding object_of
object_of-large place h = omega arith

object_at-beyond : (memory : Memory) (n : ℕ) → length memory < n → object_at memory n ≡ None
object_at-beyond memory zero lt = absurd (omega arith)
object_at-beyond [] (suc n) lt = refl
object_at-beyond (o ∷ memory) (suc zero) lt = absurd (omega arith)
object_at-beyond (o ∷ memory) (suc (suc n)) lt = object_at-beyond memory (suc n) (omega arith)

-- nothing is inside there
pub inside-beyond : (memory : Memory) (place len : ℕ) → length memory ≤ 65535 → 2 ^ 64 ≤ place → is_inside memory place len ≡ false
inside-beyond memory place len few h =
    let lt : 65535 < object_of place = object_of-large place h in
    ap (λ o. holds_range o (offset_of place) len) (object_at-beyond memory (object_of place) (omega arith))

pub load-beyond : (memory : Memory) (place : ℕ) → length memory ≤ 65535 → 2 ^ 64 ≤ place → None ≡ load S32 place memory
unfolding load
load-beyond memory place few h = rw (inside-beyond memory place 4 few h) refl

pub store-beyond : (memory : Memory) (place : ℕ) (z : ℤ) → length memory ≤ 65535 → 2 ^ 64 ≤ place → store S32 place z memory ≡ None
unfolding store
store-beyond memory place z few h = rw (inside-beyond memory place 4 few h) refl

-- a target there denotes nothing
pub added-beyond : (memory : Memory) (tag place : ℕ) (o : Option ℕ) (set : WriteSet) → length memory ≤ 65535 → 2 ^ 64 ≤ place → o ≡ Some place
    → set ≡ with_ranges (denoted tag memory true o (Some 4)) set
added-beyond memory tag place o set few h e = rw (e, inside-beyond memory place 4 few h) (ap (λ ranges. record set { ranges = ranges }) (sym (append-nil set.ranges)))

-- the number of objects stays
pub length-update : (k : ℕ) (change : Object → Object) (memory : Memory) → length (update k change memory) ≡ length memory
length-update k change [] = refl
length-update zero change (o ∷ memory) = refl
length-update (suc k) change (o ∷ memory) = ap suc (length-update k change memory)

pub length-changed : (n : ℕ) (change : Object → Object) (memory : Memory) → length (changed n change memory) ≡ length memory
length-changed zero change memory = refl
length-changed (suc k) change memory = length-update k change memory

stored-length : (b : Bool) (memory changed_memory new : Memory) → length changed_memory ≡ length memory → (if b then Some changed_memory else None) ≡ Some new → length new ≡ length memory
stored-length true memory changed_memory new e h = cc
stored-length false memory changed_memory new e h = cc

pub length-store : (memory new : Memory) (place : ℕ) (z : ℤ) → store S32 place z memory ≡ Some new → length new ≡ length memory
unfolding store
length-store memory new place z h =
    stored-length (is_inside memory place 4) memory (changed (object_of place) (with_bytes (offset_of place) (encoded S32 z)) memory) new (length-changed (object_of place) (with_bytes (offset_of place) (encoded S32 z)) memory) h

pub length-kill_all : (objects : List ℕ) (memory : Memory) → length (kill_all objects memory) ≡ length memory
length-kill_all [] memory = refl
length-kill_all (o ∷ objects) memory = length-kill_all objects (changed o died memory) ∙ length-changed o died memory

-- a new object of four bytes that gets an int
pub int_pushed : (m zeros stored : Memory) (number pointer : ℕ) (z : ℤ) (b : Bool) → number ≡ length m + 1 → pointer ≡ number * 2 ^ 48 → zeros ≡ m ++ holding Stack (replicate 4 0) ∷ []
    → IsWritten b (store S32 pointer z zeros) zeros stored → stored ≡ m ++ holding Stack (encoded S32 z) ∷ []
unfolding start_of
int_pushed m zeros stored number pointer z b count place new is =
    let start : pointer ≡ start_of (suc (length m)) = omega (arith, count, place) in
    let fits : store S32 pointer z zeros ≡ Some (m ++ holding Stack (encoded S32 z) ∷ []) = rw (start, new) (store-new m z) in
    by b (store S32 pointer z zeros) fits is
  where
    by : (b : Bool) (o : Option Memory) → o ≡ Some (m ++ holding Stack (encoded S32 z) ∷ []) → IsWritten b o zeros stored → stored ≡ m ++ holding Stack (encoded S32 z) ∷ []
    by true o e w = cc
    by false o e w = absurd (let none : None ≡ Some (m ++ holding Stack (encoded S32 z) ∷ []) = sym w.0 ∙ e in cc)
