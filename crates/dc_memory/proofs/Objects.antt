-- Changes of a list of objects.
use Rattle.std.proofs.Common.{◌≡◌, ◌≢◌, ℕ, zero, suc, ◌-◌, ◌<◌, ◌≤◌, List, [], ◌∷◌, length, take, drop, get_or, true, Some, refl, ap, sym, ◌∙◌, arith}
use Rattle.std.proofs.Math.ListN.{set, length-set}
use Rattle.std.proofs.lemmas.List.{set-set, get_or-set_same, get_or-set_other}
use Rattle.std.proofs.lemmas.List.Elements.{All-set}
use Rattle.dc_memory.specs.declared.object.Object.{Object}
use Rattle.dc_memory.specs.Objects.{Memory, IsObject, IsMemory, object_at, update, changed, live_object}
use Rattle.dc_memory.specs.Places.{object_of, offset_of, holds_range, is_inside, range_bytes, put_at, with_bytes, written}
use Rattle.dc_memory.proofs.Puts.{length-put_at}

updated : (f : Object → Object) (xs : Memory) (k : ℕ) (x g : Object) → k < length xs → g ≡ get_or xs k g → x ≡ f g → set xs k x ≡ update k f xs
updated f [] k x g lt is e = absurd (omega arith)
updated f (y ∷ ys) zero x g lt is e = ap (λ o. o ∷ ys) (e ∙ ap f is)
updated f (y ∷ ys) (suc k) x g lt is e = ap (λ l. y ∷ l) (updated f ys k x g (omega arith) is e)

-- the object of a number is written: the list is known as m, and g is the object that was there
pub set-changed : (f : Object → Object) (m xs : Memory) (n i : ℕ) (x g : Object) → xs ≡ m → n ≡ suc i → n ≤ length m → g ≡ get_or xs i g → x ≡ f g → set xs i x ≡ changed n f m
set-changed f m xs n i x g same h le is e =
    let count : length xs ≡ length m = ap length same in
    let lt : i < length xs = omega arith in
    rw (← same, h) (updated f xs i x g lt is e)

-- a live object is there
pub live-there : (m : Memory) (n : ℕ) → live_object (object_at m n) ≡ true → (0 < n) × (n ≤ length m)
live-there m zero h = cc
live-there [] (suc k) h = cc
live-there (o ∷ m) (suc zero) h = (omega arith, omega arith)
live-there (o ∷ m) (suc (suc k)) h = (omega arith, (let r = live-there m (suc k) h in omega (arith, r.1)))

-- an object that has a range is there
pub range-there : (m : Memory) (n from len : ℕ) → holds_range (object_at m n) from len ≡ true → (0 < n) × (n ≤ length m)
range-there m zero from len h = cc
range-there [] (suc k) from len h = cc
range-there (o ∷ m) (suc zero) from len h = (omega arith, omega arith)
range-there (o ∷ m) (suc (suc k)) from len h = (omega arith, (let r = range-there m (suc k) from len h in omega (arith, r.1)))

-- the bytes of an object are replaced by as many
IsObject-with_bytes : (from : ℕ) (values : List ℕ) (o : Object) → IsObject o → IsObject (with_bytes from values o)
IsObject-with_bytes from values o is =
    record {
      small = rw length-put_at is.small;
      dead = λ d. rw (is.dead d) refl;
      function = λ f. ((is.function f).0, rw (is.function f).1 refl);
    }

IsMemory-set : (m : Memory) (i : ℕ) (x : Object) → IsMemory m → IsObject x → IsMemory (set m i x)
IsMemory-set m i x is at = record { few = rw length-set is.few; each = All-set IsObject m i x at is.each }

object-there : (m : Memory) (i : ℕ) (g : Object) → i < length m → g ≡ get_or m i g → object_at m (suc i) ≡ Some g
object-there [] i g lt is = absurd (omega arith)
object-there (o ∷ m) zero g lt is = ap Some (sym is)
object-there (o ∷ m) (suc i) g lt is = object-there m i g (omega arith) is

-- what is known where the object of a pointer is reached: the list is known as m, and g is the object
pub record IsReached (m xs : Memory) (pointer len n : ℕ) (g : Object) : Type 0 where
  pub same : xs ≡ m
  pub number : n ≡ object_of pointer
  pub inside : is_inside m pointer len ≡ true
  pub there : g ≡ get_or xs (n - 1) g

pub reached-below : (m xs : Memory) (pointer len n : ℕ) (g : Object) → IsReached m xs pointer len n g → (n ≡ suc (n - 1)) × (n - 1 < length xs)
reached-below m xs pointer len n g r =
    let there = range-there m (object_of pointer) (offset_of pointer) len r.inside in
    let count : length xs ≡ length m = ap length r.same in
    let number = r.number in
    (omega (arith, there.0, there.1), omega (arith, there.0, there.1))

pub reached-object : (m xs : Memory) (pointer len n : ℕ) (g : Object) → IsReached m xs pointer len n g → object_at m (object_of pointer) ≡ Some g
reached-object m xs pointer len n g r =
    let below = reached-below m xs pointer len n g r in
    rw (← r.number, ← r.same) (rw below.0 (object-there xs (n - 1) g below.1 r.there))

-- bytes of the object that is reached are replaced
pub put-written : (m xs : Memory) (pointer len n : ℕ) (g : Object) → IsReached m xs pointer len n g → (values new : List ℕ) (from : ℕ) → from ≡ offset_of pointer → new ≡ put_at from values g.bytes
    → set xs (n - 1) (record { kind = g.kind; live = g.live; bytes = new }) ≡ written pointer values m
put-written m xs pointer len n g r values new from offset is =
    let below = reached-below m xs pointer len n g r in
    let there = range-there m (object_of pointer) (offset_of pointer) len r.inside in
    let number : object_of pointer ≡ suc (n - 1) = sym r.number ∙ below.0 in
    let new_object : Object = record { kind = g.kind; live = g.live; bytes = new } in
    let whole : new_object ≡ with_bytes (offset_of pointer) values g = rw (is, offset) refl in
    set-changed (with_bytes (offset_of pointer) values) m xs (object_of pointer) (n - 1) new_object g r.same number there.1 r.there whole

-- and the list is a memory's still
pub put-memory : (m xs : Memory) (pointer len n : ℕ) (g : Object) → IsReached m xs pointer len n g → (values new : List ℕ) (from : ℕ) → new ≡ put_at from values g.bytes → IsMemory xs
    → IsMemory (set xs (n - 1) (record { kind = g.kind; live = g.live; bytes = new }))
put-memory m xs pointer len n g r values new from is memory =
    let below = reached-below m xs pointer len n g r in
    let at : IsObject g = rw (← r.there) at (memory.each (n - 1) g below.1) in
    IsMemory-set xs (n - 1) _ memory (rw is (IsObject-with_bytes from values g at))

-- the bytes of a range of it
pub reached-bytes : (m xs : Memory) (pointer len n : ℕ) (g : Object) → IsReached m xs pointer len n g → range_bytes m pointer len ≡ take len (drop (offset_of pointer) g.bytes)
reached-bytes m xs pointer len n g r = rw (reached-object m xs pointer len n g r) refl

-- an object whose bytes were taken out gets others
pub set-again : (xs : Memory) (i : ℕ) (g h : Object) (none new : List ℕ) → i < length xs → h ≡ get_or (set xs i (record { kind = g.kind; live = g.live; bytes = none })) i h
    → set (set xs i (record { kind = g.kind; live = g.live; bytes = none })) i (record { kind = h.kind; live = h.live; bytes = new }) ≡ set xs i (record { kind = g.kind; live = g.live; bytes = new })
set-again xs i g h none new lt is =
    let empty : Object = record { kind = g.kind; live = g.live; bytes = none } in
    let same : h ≡ empty = is ∙ get_or-set_same xs i empty h lt in
    set-set xs i empty (record { kind = h.kind; live = h.live; bytes = new }) ∙ rw same refl

-- another object is as it was
pub reached-beside : (m xs : Memory) (to from len n k : ℕ) (x g h : Object) → IsReached m xs to len n g → k ≡ object_of from → is_inside m from len ≡ true → (object_of to ≡ object_of from → ⊥)
    → h ≡ get_or (set xs (n - 1) x) (k - 1) h → IsReached m xs from len k h
reached-beside m xs to from len n k x g h r number inside apart is =
    let there = range-there m (object_of from) (offset_of from) len inside in
    let below = reached-below m xs to len n g r in
    let other : k - 1 ≢ n - 1 = λ e. apart (sym r.number ∙ (let eq : n ≡ k = omega (arith, below.0, there.0) in eq) ∙ number) in
    record { same = r.same; number = number; inside = inside; there = is ∙ get_or-set_other xs (n - 1) (k - 1) x h other }

-- what a copy from one object to another leaves in it
pub copied-bytes : (to from len n : ℕ) (new part source bytes old range : List ℕ) → new ≡ put_at to (take n (drop from part)) bytes → n ≡ len → part ≡ source → bytes ≡ old → range ≡ take len (drop from source) → new ≡ put_at to range old
copied-bytes to from len n new part source bytes old range is few seen same taken = is ∙ rw (few, seen, same, taken) refl
