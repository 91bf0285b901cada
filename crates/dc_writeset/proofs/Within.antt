-- Bytes within a range that is allowed.
use Rattle.std.proofs.Common.{◌≡◌, ℕ, Bool, true, false, not, ◌||◌, nat_eq, nat_lt, List, [], ◌∷◌, Option, Some, None, refl, ap, ◌∙◌, arith, ⊎_elim}
use Rattle.std.specs.Prelude.{Contains}
use Rattle.std.specs.List.{list_all}
use Rattle.std.proofs.lemmas.Bool.{or_cases, and_parts}
use Rattle.std.proofs.lemmas.Bool.Decides.{nat_tests}
use Rattle.std.proofs.lemmas.List.Folds.{list_all_at}
use Rattle.dc_memory.specs.Context.{Range, Context, contains, some_contains, is_allowed}
use Rattle.dc_writeset.specs.Sets.{PlainSet, TaggedObject, TaggedRange, context_of, innermost, is_free_allowed, is_inside_below, is_object_below, is_range_below, is_write_allowed}

-- what a range within another one has, that one has
contains-within : (q r : Range) (object from len : ℕ) → contains q r.object r.from r.len ≡ true → contains r object from len ≡ true → contains q object from len ≡ true
contains-within q r object from len outer inner = grind (arith, nat_tests)

or_first : (a b : Bool) → a ≡ true → (a || b) ≡ true
or_first true b e = refl
or_first false b e = cc

or_second : (a b : Bool) → b ≡ true → (a || b) ≡ true
or_second true b e = refl
or_second false b e = e

some_contains-within : (ranges : List Range) (r : Range) (object from len : ℕ) → some_contains ranges r.object r.from r.len ≡ true → contains r object from len ≡ true
    → some_contains ranges object from len ≡ true
some_contains-within [] r object from len outer inner = outer
some_contains-within (q ∷ ranges) r object from len outer inner =
    ⊎_elim
    (λ h. or_first (contains q object from len) (some_contains ranges object from len) (contains-within q r object from len h inner))
    (λ h. or_second (contains q object from len) (some_contains ranges object from len) (some_contains-within ranges r object from len h inner))
    (or_cases (contains q r.object r.from r.len) (some_contains ranges r.object r.from r.len) outer)

object-within : (mark : ℕ) (r : Range) (object from len : ℕ) → nat_lt mark r.object ≡ true → contains r object from len ≡ true → nat_lt mark object ≡ true
object-within mark r object from len above inner = grind (arith, nat_tests)

is_allowed-within : (context : Context) (r : Range) (object from len : ℕ) → is_allowed context r.object r.from r.len ≡ true → contains r object from len ≡ true
    → is_allowed context object from len ≡ true
is_allowed-within context r object from len outer inner =
    ⊎_elim
    (λ h. or_first (nat_lt context.mark object) (some_contains context.ranges object from len) (object-within context.mark r object from len h inner))
    (λ h. or_second (nat_lt context.mark object) (some_contains context.ranges object from len) (some_contains-within context.ranges r object from len h inner))
    (or_cases (nat_lt context.mark r.object) (some_contains context.ranges r.object r.from r.len) outer)

is_write_allowed-within : (set : Option PlainSet) (r : Range) (object from len : ℕ) → is_write_allowed set r.object r.from r.len ≡ true → contains r object from len ≡ true
    → is_write_allowed set object from len ≡ true
is_write_allowed-within None r object from len outer inner = outer
is_write_allowed-within (Some set) r object from len outer inner = is_allowed-within (context_of set) r object from len outer inner

-- one of a list that all pass
one_passes : {X : Type 0} (p : X → Bool) (xs : List X) (x : X) (b : Bool) → p x ≡ b → list_all p xs ≡ true → Contains xs x → b ≡ true
one_passes p xs x true e all there = refl
one_passes p xs x false e all there =
    let at : p x ≡ false = e in
    let none = list_all_at p xs there.0 x there.1 (ap p there.2 ∙ e) in cc

tag_holds : (tag : ℕ) (b : Bool) → (not (nat_eq tag tag) || b) ≡ true → b ≡ true
tag_holds tag b e = grind (arith, nat_tests)

pub is_write_allowed-inside : (set : PlainSet) (sets : List PlainSet) (r : TaggedRange) (object from len : ℕ) → is_inside_below (set ∷ sets) r.tag ≡ true → Contains set.ranges r
    → contains r.range object from len ≡ true → is_write_allowed (innermost sets) object from len ≡ true
is_write_allowed-inside set sets r object from len inside there inner =
    let next = innermost sets in
    let parts = and_parts (list_all (is_range_below next r.tag) set.ranges) (list_all (is_object_below next r.tag) set.frees) inside in
    let one = one_passes (is_range_below next r.tag) set.ranges r (is_range_below next r.tag r) refl parts.0 there in
    is_write_allowed-within next r.range object from len (tag_holds r.tag (is_write_allowed next r.range.object r.range.from r.range.len) one) inner

pub is_free_allowed-inside : (set : PlainSet) (sets : List PlainSet) (f : TaggedObject) → is_inside_below (set ∷ sets) f.tag ≡ true → Contains set.frees f
    → is_free_allowed (innermost sets) f.object ≡ true
is_free_allowed-inside set sets f inside there =
    let next = innermost sets in
    let parts = and_parts (list_all (is_range_below next f.tag) set.ranges) (list_all (is_object_below next f.tag) set.frees) inside in
    tag_holds f.tag (is_free_allowed next f.object) (one_passes (is_object_below next f.tag) set.frees f (is_object_below next f.tag f) refl parts.1 there)
