-- What is read after a write.
use Rattle.std.proofs.Common.{◌≡◌, ◌≢◌, ℕ, zero, suc, ◌+◌, ◌≤◌, List, [], ◌∷◌, length, take, drop, Bool, true, false, Option, None, Some, refl, ap, ◌∙◌, arith, ℤ, ◌⊎◌, inl, inr}
use Rattle.std.specs.Prelude.{◌&&◌, nat_le, if◌then◌else◌, option_map}
use Rattle.std.proofs.lemmas.Bool.{cases_eq}
use Rattle.std.proofs.lemmas.Bool.Decides.{nat_tests}
use Rattle.std.proofs.lemmas.List.{length-take-le, length-drop}
use Rattle.dc_memory.specs.declared.kind.MemKind.{MemKind}
use Rattle.dc_memory.specs.declared.object.Object.{Object}
use Rattle.dc_memory.specs.Kinds.{size_of, IsValue}
use Rattle.dc_memory.specs.Conversions.{bits, converted}
use Rattle.dc_memory.specs.Objects.{Memory, object_at, update, changed}
use Rattle.dc_memory.specs.Places.{object_of, offset_of, holds_range, is_inside, bytes_at, range_bytes, put_at, with_bytes, written, IsApart}
use Rattle.dc_memory.specs.Encoding.{encoded, decoded}
use Rattle.dc_memory.specs.Access.{load, store, copied}
use Rattle.dc_memory.proofs.Puts.{length-put_at}
use Rattle.dc_memory.proofs.Decoded.{decoded-encoded, length-bytes_of}

get-update : (f : Object → Object) (m : Memory) (k : ℕ) → object_at (update k f m) (suc k) ≡ option_map f (object_at m (suc k))
get-update f [] k = refl
get-update f (o ∷ m) zero = refl
get-update f (o ∷ m) (suc k) = get-update f m k

get-update_other : (f : Object → Object) (m : Memory) (k j : ℕ) → k ≢ j → object_at (update k f m) (suc j) ≡ object_at m (suc j)
get-update_other f [] k j apart = refl
get-update_other f (o ∷ m) zero zero apart = absurd (apart refl)
get-update_other f (o ∷ m) zero (suc j) apart = refl
get-update_other f (o ∷ m) (suc k) zero apart = refl
get-update_other f (o ∷ m) (suc k) (suc j) apart = get-update_other f m k j (λ e. apart (ap suc e))

object_at-changed : (f : Object → Object) (m : Memory) (n : ℕ) → object_at (changed n f m) n ≡ option_map f (object_at m n)
object_at-changed f m zero = refl
object_at-changed f m (suc k) = get-update f m k

object_at-changed_other : (f : Object → Object) (m : Memory) (n j : ℕ) → n ≢ j → object_at (changed n f m) j ≡ object_at m j
object_at-changed_other f m zero j apart = refl
object_at-changed_other f m (suc k) zero apart = refl
object_at-changed_other f m (suc k) (suc j) apart = get-update_other f m k j (λ e. apart (ap suc e))

-- what was put is there
take-put_at : (from : ℕ) (values xs : List ℕ) → from + length values ≤ length xs → take (length values) (drop from (put_at from values xs)) ≡ values
take-put_at zero [] xs le = refl
take-put_at zero (v ∷ values) [] le = absurd (omega arith)
take-put_at zero (v ∷ values) (x ∷ xs) le = ap (λ l. v ∷ l) (take-put_at zero values xs (omega arith))
take-put_at (suc from) values [] le = absurd (omega arith)
take-put_at (suc from) values (x ∷ xs) le = take-put_at from values xs (omega arith)

-- and nothing else is changed: neither in front of it nor behind it
part-before : (from len to : ℕ) (values xs : List ℕ) → from + len ≤ to → take len (drop from (put_at to values xs)) ≡ take len (drop from xs)
part-before from len to values [] le = refl
part-before zero zero to values (x ∷ xs) le = refl
part-before zero (suc len) zero values (x ∷ xs) le = absurd (omega arith)
part-before zero (suc len) (suc to) values (x ∷ xs) le = ap (λ l. x ∷ l) (part-before zero len to values xs (omega arith))
part-before (suc from) len zero values (x ∷ xs) le = absurd (omega arith)
part-before (suc from) len (suc to) values (x ∷ xs) le = part-before from len to values xs (omega arith)

drop-put_at : (from to : ℕ) (values xs : List ℕ) → to + length values ≤ from → drop from (put_at to values xs) ≡ drop from xs
drop-put_at from to values [] le = refl
drop-put_at from zero [] (x ∷ xs) le = refl
drop-put_at zero zero (v ∷ values) (x ∷ xs) le = absurd (omega arith)
drop-put_at (suc from) zero (v ∷ values) (x ∷ xs) le = drop-put_at from zero values xs (omega arith)
drop-put_at zero (suc to) values (x ∷ xs) le = absurd (omega arith)
drop-put_at (suc from) (suc to) values (x ∷ xs) le = drop-put_at from to values xs (omega arith)

within : (live : Bool) (n k : ℕ) → (live && nat_le n k) ≡ true → n ≤ k
within true n k h = grind (arith, nat_tests)
within false n k h = cc

-- of one object
read-put : (o : Option Object) (from : ℕ) (values : List ℕ) → holds_range o from (length values) ≡ true → bytes_at (option_map (with_bytes from values) o) from (length values) ≡ values
read-put None from values h = cc
read-put (Some o) from values h = take-put_at from values o.bytes (within o.live (from + length values) (length o.bytes) h)

holds-put : (o : Option Object) (to from len : ℕ) (values : List ℕ) → holds_range (option_map (with_bytes to values) o) from len ≡ holds_range o from len
holds-put None to from len values = refl
holds-put (Some o) to from len values = ap (λ n. o.live && nat_le (from + len) n) (length-put_at to values o.bytes)

read-before : (o : Option Object) (to from len : ℕ) (values : List ℕ) → from + len ≤ to → bytes_at (option_map (with_bytes to values) o) from len ≡ bytes_at o from len
read-before None to from len values le = refl
read-before (Some o) to from len values le = part-before from len to values o.bytes le

read-behind : (o : Option Object) (to from len : ℕ) (values : List ℕ) → to + length values ≤ from → bytes_at (option_map (with_bytes to values) o) from len ≡ bytes_at o from len
read-behind None to from len values le = refl
read-behind (Some o) to from len values le = ap (take len) (drop-put_at from to values o.bytes le)

-- what is written is read at its place
pub range_bytes-written : (to len : ℕ) (values : List ℕ) (m : Memory) → length values ≡ len → is_inside m to len ≡ true → range_bytes (written to values m) to len ≡ values
range_bytes-written to len values m count inside =
    ap (λ o. bytes_at o (offset_of to) len) (object_at-changed (with_bytes (offset_of to) values) m (object_of to)) ∙ rw (← count) (read-put (object_at m (object_of to)) (offset_of to) values (rw (← count) at inside))

-- ranges neither come nor go
pub is_inside-written : (to from len : ℕ) (values : List ℕ) (m : Memory) → is_inside (written to values m) from len ≡ is_inside m from len
is_inside-written to from len values m = by (cases_eq (object_of to) (object_of from))
  where
    f : Object → Object
    f = with_bytes (offset_of to) values

    by : (object_of to ≡ object_of from) ⊎ (object_of to ≢ object_of from) → is_inside (written to values m) from len ≡ is_inside m from len
    by (inl same) = rw same (ap (λ o. holds_range o (offset_of from) len) (object_at-changed f m (object_of from)) ∙ holds-put (object_at m (object_of from)) (offset_of to) (offset_of from) len values)
    by (inr apart) = ap (λ o. holds_range o (offset_of from) len) (object_at-changed_other f m (object_of to) (object_of from) apart)

pub range_bytes-written_apart : (to from len : ℕ) (values : List ℕ) (m : Memory) → IsApart to (length values) from len → range_bytes (written to values m) from len ≡ range_bytes m from len
range_bytes-written_apart to from len values m (inl apart) = ap (λ o. bytes_at o (offset_of from) len) (object_at-changed_other (with_bytes (offset_of to) values) m (object_of to) (object_of from) apart)
range_bytes-written_apart to from len values m (inr beside) = by (cases_eq (object_of to) (object_of from)) beside
  where
    f : Object → Object
    f = with_bytes (offset_of to) values

    by : (object_of to ≡ object_of from) ⊎ (object_of to ≢ object_of from) → (offset_of from + len ≤ offset_of to) ⊎ (offset_of to + length values ≤ offset_of from) → range_bytes (written to values m) from len ≡ range_bytes m from len
    by (inl same) (inl before) = rw same (ap (λ o. bytes_at o (offset_of from) len) (object_at-changed f m (object_of from)) ∙ read-before (object_at m (object_of from)) (offset_of to) (offset_of from) len values before)
    by (inl same) (inr behind) = rw same (ap (λ o. bytes_at o (offset_of from) len) (object_at-changed f m (object_of from)) ∙ read-behind (object_at m (object_of from)) (offset_of to) (offset_of from) len values behind)
    by (inr apart) beside = ap (λ o. bytes_at o (offset_of from) len) (object_at-changed_other f m (object_of to) (object_of from) apart)

taken-if : (b : Bool) (written after : Memory) → (if b then Some written else None) ≡ Some after → (b ≡ true) × (written ≡ after)
taken-if true written after e = (refl, (cc))
taken-if false written after e = absurd (none-some after e)
  where
    none-some : (after : Memory) → None ≡ Some after → ⊥
    none-some after e = cc

loaded-if : (b : Bool) (y z : ℤ) → b ≡ true → y ≡ z → (if b then Some y else None) ≡ Some z
loaded-if true y z e is = ap Some is
loaded-if false y z e is = cc

pub load-store : (kind : MemKind) (pointer : ℕ) (z : ℤ) (before after : Memory) → IsValue kind z → store kind pointer z before ≡ Some after → load kind pointer after ≡ Some z
unfolding load store
load-store kind pointer z before after v e =
    let taken = taken-if (is_inside before pointer (size_of kind)) (written pointer (encoded kind z) before) after e in
    let count : length (encoded kind z) ≡ size_of kind = length-bytes_of (size_of kind) (bits kind (converted kind z)) in
    let there : is_inside after pointer (size_of kind) ≡ true = rw (← taken.1) (is_inside-written pointer pointer (size_of kind) (encoded kind z) before ∙ taken.0) in
    let read : range_bytes after pointer (size_of kind) ≡ encoded kind z = rw (← taken.1) (range_bytes-written pointer (size_of kind) (encoded kind z) before count taken.0) in
    loaded-if (is_inside after pointer (size_of kind)) (decoded kind (range_bytes after pointer (size_of kind))) z there (ap (decoded kind) read ∙ decoded-encoded kind z v)

length-bytes_at : (o : Option Object) (from len : ℕ) → holds_range o from len ≡ true → length (bytes_at o from len) ≡ len
length-bytes_at None from len h = cc
length-bytes_at (Some o) from len h =
    let le = within o.live (from + len) (length o.bytes) h in
    let rest : len ≤ length (drop from o.bytes) = rw length-drop (omega arith) in
    length-take-le len (drop from o.bytes) rest

both : (a b : Bool) → (a && b) ≡ true → (a ≡ true) × (b ≡ true)
both true b e = (refl, e)
both false b e = cc

pub range_bytes-copied : (to from len : ℕ) (before after : Memory) → copied to from len before ≡ Some after → range_bytes after to len ≡ range_bytes before from len
unfolding copied
range_bytes-copied to from len before after e =
    let taken = taken-if (is_inside before to len && is_inside before from len) (written to (range_bytes before from len) before) after e in
    let inside = both (is_inside before to len) (is_inside before from len) taken.0 in
    let count = length-bytes_at (object_at before (object_of from)) (offset_of from) len inside.1 in
    rw (← taken.1) (range_bytes-written to len (range_bytes before from len) before count inside.0)
