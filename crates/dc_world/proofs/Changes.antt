-- Changes of one object of a memory.
use Rattle.std.proofs.Common.{◌≡◌, ℕ, zero, suc, List, [], ◌∷◌, length, take, get_or, ◌+◌, ◌-◌, ◌*◌, ◌^◌, ◌<◌, ◌≤◌, Bool, true, false, ◌&&◌, not, Option, Some, None, option_map, refl, ap, sym, ◌∙◌, arith}
use Rattle.dc_memory.specs.declared.object.Object.{Object}
use Rattle.dc_memory.specs.declared.object.ObjKind.{ObjKind}
use Rattle.dc_memory.specs.Objects.{Memory, IsObject, IsMemory, object_at, update, changed, killed, function_kind, seen}
use Rattle.dc_core.specs.Objects.{died}
use Rattle.dc_memory.specs.Places.{put_at, with_bytes, written, is_inside, object_of, offset_of}
use Rattle.std.specs.Prelude.{min, nat_le, unwrap_or}
use Rattle.std.proofs.lemmas.List.{length-take}
use Rattle.std.proofs.lemmas.Option.{slice_get_within, unwrap_or-slice_get}
use Rattle.std.proofs.Math.Seq.{take-nil}
use Rattle.std.proofs.lemmas.Bool.Decides.{nat_tests}

update-none : (f : Object → Object) (m : Memory) (k : ℕ) → object_at m (suc k) ≡ None → update k f m ≡ m
update-none f [] k none = refl
update-none f (o ∷ m) zero none = cc
update-none f (o ∷ m) (suc k) none = ap (λ l. o ∷ l) (update-none f m k none)

-- no object has the number
pub changed-none : (f : Object → Object) (m : Memory) (n : ℕ) → object_at m n ≡ None → changed n f m ≡ m
changed-none f m zero none = refl
changed-none f m (suc k) none = update-none f m k none

update-here : (f g : Object → Object) (m : Memory) (k : ℕ) (o : Object) → object_at m (suc k) ≡ Some o → f o ≡ g o → update k f m ≡ update k g m
update-here f g [] k o there same = refl
update-here f g (x ∷ m) zero o there same =
    let is : x ≡ o = cc in
    ap (λ y. y ∷ m) (rw is same)
update-here f g (x ∷ m) (suc k) o there same = ap (λ l. x ∷ l) (update-here f g m k o there same)

-- two changes that do the same to the object of the number
pub changed-here : (f g : Object → Object) (m : Memory) (n : ℕ) (o : Object) → object_at m n ≡ Some o → f o ≡ g o → changed n f m ≡ changed n g m
changed-here f g m zero o there same = refl
changed-here f g m (suc k) o there same = update-here f g m k o there same

update-kept : (m : Memory) (k : ℕ) → update k (λ o. o) m ≡ m
update-kept [] k = refl
update-kept (o ∷ m) zero = refl
update-kept (o ∷ m) (suc k) = ap (λ l. o ∷ l) (update-kept m k)

-- a change that leaves the object of the number as it is
pub changed-kept : (f : Object → Object) (m : Memory) (n : ℕ) (o : Object) → object_at m n ≡ Some o → f o ≡ o → changed n f m ≡ m
changed-kept f m n o there same = changed-here f (λ x. x) m n o there same ∙ kept n
  where
    kept : (n : ℕ) → changed n (λ x. x) m ≡ m
    kept zero = refl
    kept (suc k) = update-kept m k

-- values that don't fit are left away
put_at-few : (count : ℕ) (values xs : List ℕ) → count ≡ min (length values) (length xs) → put_at 0 (take count values) xs ≡ put_at 0 values xs
put_at-few count values [] e = refl
put_at-few count [] (x ∷ xs) e = rw (take-nil count) refl
put_at-few zero (v ∷ values) (x ∷ xs) e = absurd (omega (arith, e))
put_at-few (suc count) (v ∷ values) (x ∷ xs) e = ap (λ l. v ∷ l) (put_at-few count values xs (omega (arith, e)))

-- so it is from an index on
put_at-few-from : (from count : ℕ) (values xs : List ℕ) → count ≡ min (length values) (length xs - from) → put_at from (take count values) xs ≡ put_at from values xs
put_at-few-from from count values [] e = refl
put_at-few-from zero count values (x ∷ xs) e = put_at-few count values (x ∷ xs) (e ∙ ap (min (length values)) (omega arith))
put_at-few-from (suc from) count values (x ∷ xs) e = ap (λ l. x ∷ l) (put_at-few-from from count values xs (e ∙ ap (min (length values)) (omega arith)))

-- behind the last byte there is nothing to write
put_at-beyond : (from : ℕ) (values xs : List ℕ) → length xs < from → put_at from values xs ≡ xs
put_at-beyond from values [] h = refl
put_at-beyond zero values (x ∷ xs) h = absurd (omega arith)
put_at-beyond (suc from) values (x ∷ xs) h = ap (λ l. x ∷ l) (put_at-beyond from values xs (omega arith))

-- a member of a memory is an object
is_object : (m : Memory) (n : ℕ) (o : Object) → object_at m n ≡ Some o → IsMemory m → IsObject o
is_object m zero o there memory = cc
is_object m (suc k) o there memory =
    let got : get_or m k o ≡ o = sym (unwrap_or-slice_get m k o) ∙ ap (λ s. unwrap_or s o) there in
    rw got at (memory.each k o (slice_get_within m k o there))

-- what is seen where no object has the number
pub nothing-seen : (m : Memory) (n : ℕ) → None ≡ option_map seen (object_at m n) → object_at m n ≡ None
nothing-seen m n e = by (object_at m n) e
  where
    by : (o : Option Object) → None ≡ option_map seen o → o ≡ None
    by None e = refl
    by (Some o) e = cc

-- what is seen of an object
record IsSeen (m : Memory) (n : ℕ) (kind : ObjKind) (live : Bool) (size : ℕ) : Type 0 where
  pub object : Object
  pub there : object_at m n ≡ Some object
  pub is_kind : kind ≡ object.kind
  pub is_live : live ≡ object.live
  pub is_size : size ≡ length object.bytes

is_seen : (m : Memory) (n : ℕ) (kind : ObjKind) (live : Bool) (size : ℕ) → Some (kind, live, size) ≡ option_map seen (object_at m n) → IsSeen m n kind live size
is_seen m n kind live size e = by (object_at m n) refl e
  where
    by : (found : Option Object) → object_at m n ≡ found → Some (kind, live, size) ≡ option_map seen found → IsSeen m n kind live size
    by None there e = cc
    by (Some o) there e =
        let same : (kind, live, size) ≡ seen o = cc in
        record { object = o; there = there; is_kind = ap (λ s. s.0) same; is_live = ap (λ s. s.1) same; is_size = ap (λ s. s.2) same }

-- a live object that is no function is killed
pub dies : (m : Memory) (n : ℕ) (kind : ObjKind) (live : Bool) (size : ℕ) → Some (kind, live, size) ≡ option_map seen (object_at m n) → live ≡ true → function_kind kind ≡ false → changed n killed m ≡ changed n died m
dies m n kind live size e alive plain =
    let s = is_seen m n kind live size e in
    let alive_object : s.object.live ≡ true = sym s.is_live ∙ alive in
    let plain_object : function_kind s.object.kind ≡ false = ap function_kind (sym s.is_kind) ∙ plain in
    changed-here killed died m n s.object s.there (rw (alive_object, plain_object) refl)

-- another object stays
pub stays : (m : Memory) (n : ℕ) (kind : ObjKind) (live : Bool) (size : ℕ) → Some (kind, live, size) ≡ option_map seen (object_at m n) → (live && not (function_kind kind)) ≡ false → m ≡ changed n died m
stays m n kind live size e kept =
    let s = is_seen m n kind live size e in
    let kept_object : (s.object.live && not (function_kind s.object.kind)) ≡ false =
    ap (λ l. l && not (function_kind s.object.kind)) (sym s.is_live) ∙ ap (λ k. live && not (function_kind k)) (sym s.is_kind) ∙ kept in
    sym (changed-kept died m n s.object s.there (rw kept_object refl))

-- Bytes that are written ------------------------------------------------------------------------------------------

-- no object has a number beyond the last
pub nothing-beyond : (m : Memory) (n : ℕ) → length m < n → object_at m n ≡ None
nothing-beyond m zero lt = absurd (omega arith)
nothing-beyond [] (suc k) lt = refl
nothing-beyond (o ∷ m) (suc zero) lt = absurd (omega arith)
nothing-beyond (o ∷ m) (suc (suc k)) lt = nothing-beyond m (suc k) (omega arith)

place-object : (n from p : ℕ) → p ≡ n * 2 ^ 48 + from → from < 2 ^ 48 → object_of p ≡ n
unfolding object_of
place-object n from p e h = omega (arith, e)

place-offset : (n from p : ℕ) → p ≡ n * 2 ^ 48 + from → from < 2 ^ 48 → offset_of p ≡ from
unfolding offset_of
place-offset n from p e h = omega (arith, e)

within : (from count : ℕ) (values xs : List ℕ) → from ≤ length xs → count ≡ min (length values) (length xs - from) → nat_le (from + length (take count values)) (length xs) ≡ true
within from count values xs h e = grind (arith, nat_tests, length-take, e)

-- where an object's bytes are written: its number, the index of the first of them, the place, and how many there is room for
pub record HasRoom (n from p size count : ℕ) (values : List ℕ) : Type 0 where
  pub place : p ≡ n * 2 ^ 48 + from
  pub first : from ≤ size
  pub small : size ≤ 16777216
  pub few : count ≡ min (length values) (size - from)

-- as many bytes as there is room for are inside
pub room : (m : Memory) (n from p : ℕ) (kind : ObjKind) (live : Bool) (size count : ℕ) (values : List ℕ) → Some (kind, live, size) ≡ option_map seen (object_at m n) → live ≡ true
    → HasRoom n from p size count values → is_inside m p (length (take count values)) ≡ true
room m n from p kind live size count values e alive h =
    let s = is_seen m n kind live size e in
    let alive_object : s.object.live ≡ true = sym s.is_live ∙ alive in
    let low : from < 2 ^ 48 = omega (arith, h.first, h.small) in
    let first : from ≤ length s.object.bytes = omega (arith, h.first, s.is_size) in
    rw (place-object n from p h.place low, place-offset n from p h.place low, s.there, alive_object)
    (within from count values s.object.bytes first (h.few ∙ ap (λ l. min (length values) (l - from)) s.is_size))

-- they are all that can be written
pub rewrites : (m : Memory) (n from p : ℕ) (kind : ObjKind) (live : Bool) (size count : ℕ) (values : List ℕ) → Some (kind, live, size) ≡ option_map seen (object_at m n)
    → HasRoom n from p size count values → written p (take count values) m ≡ changed n (with_bytes from values) m
rewrites m n from p kind live size count values e h =
    let s = is_seen m n kind live size e in
    let low : from < 2 ^ 48 = omega (arith, h.first, h.small) in
    rw (place-object n from p h.place low, place-offset n from p h.place low) (changed-here (with_bytes from (take count values)) (with_bytes from values) m n s.object s.there
    (ap (λ bytes. record s.object { bytes = bytes }) (put_at-few-from from count values s.object.bytes (h.few ∙ ap (λ l. min (length values) (l - from)) s.is_size))))

-- a dead object has no byte to be written
pub left_dead : (m : Memory) (n from : ℕ) (kind : ObjKind) (live : Bool) (size : ℕ) (values : List ℕ) → Some (kind, live, size) ≡ option_map seen (object_at m n) → live ≡ false → IsMemory m
    → m ≡ changed n (with_bytes from values) m
left_dead m n from kind live size values e lifeless memory =
    let s = is_seen m n kind live size e in
    let none : s.object.bytes ≡ [] = (is_object m n s.object s.there memory).dead (sym s.is_live ∙ lifeless) in
    sym (changed-kept (with_bytes from values) m n s.object s.there (ap (λ bytes. record s.object { bytes = bytes }) (rw none refl)))

-- behind the last byte of an object there is none
pub left_beyond : (m : Memory) (n from : ℕ) (kind : ObjKind) (live : Bool) (size : ℕ) (values : List ℕ) → Some (kind, live, size) ≡ option_map seen (object_at m n) → size < from
    → m ≡ changed n (with_bytes from values) m
left_beyond m n from kind live size values e beyond =
    let s = is_seen m n kind live size e in
    sym (changed-kept (with_bytes from values) m n s.object s.there (ap (λ bytes. record s.object { bytes = bytes }) (put_at-beyond from values s.object.bytes (omega (arith, beyond, s.is_size)))))

put_at-none : (xs : List ℕ) → put_at 0 [] xs ≡ xs
put_at-none [] = refl
put_at-none (x ∷ xs) = refl

update-nothing : (m : Memory) (k : ℕ) → update k (with_bytes 0 []) m ≡ m
update-nothing [] k = refl
update-nothing (o ∷ m) zero = ap (λ bytes. record o { bytes = bytes } ∷ m) (put_at-none o.bytes)
update-nothing (o ∷ m) (suc k) = ap (λ l. o ∷ l) (update-nothing m k)

-- no byte is written
pub changed-nothing : (m : Memory) (n : ℕ) → m ≡ changed n (with_bytes 0 []) m
changed-nothing m zero = refl
changed-nothing m (suc k) = sym (update-nothing m k)
