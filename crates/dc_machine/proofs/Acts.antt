-- Instructions, each by what its expressions are.
use Rattle.std.proofs.Common.{◌≡◌, ℕ, zero, suc, ◌+◌, ◌-◌, ◌<◌, ◌≤◌, drop, take, get_or, ℤ, pos, Bool, true, false, ◌&&◌, List, [], ◌∷◌, ◌++◌, length, map, Option, Some, None, refl, ap, sym, ◌∙◌, arith, ◌*◌, ◌^◌, append_assoc, to_z, of_z, Bor}
use Rattle.std.specs.Prelude.{Result, IfOk, replicate, nat_le, slice_get, option_map}
use Rattle.std.specs.Option.{option_copied}
use Rattle.std.proofs.lemmas.Int.{ints}
use Rattle.std.proofs.Math.Seq.{take-nil}
use Rattle.dc_core.specs.Event.{Free, Write, Undefined}
use Rattle.dc_memory.specs.declared.object.ObjKind.TheVariants.{Static}
use Rattle.dc_memory.specs.Access.{IsWritten}
use Rattle.dc_memory.specs.Kinds.{size_of}
use Rattle.dc_memory.specs.declared.kind.MemKind.{MemKind}
use Rattle.dc_memory.specs.declared.kind.MemKind.TheVariants.{Bool as Truth, S8, U8, S16, U16, S32, U32, S64, U64, Ptr}
use Rattle.dc_num.specs.declared.kind.NumKind.{NumKind}
use Rattle.dc_memory.specs.Objects.{Memory, changed, object_limit, holding}
use Rattle.dc_memory.specs.Places.{start_of, object_of, offset_of}
use Rattle.dc_core.specs.Objects.{died, function_object}
use Rattle.dc_core.specs.Run.{Did}
use Rattle.dc_world.specs.Told.{Hearing, happens}
use Rattle.dc_world.specs.declared.report.End.{End}
use Rattle.dc_world.specs.declared.report.End.TheVariants as end
use Rattle.dc_goto.specs.Program.{GotoProgram, Sig}
use Rattle.dc_goto.specs.Acts.{Now, Then, Next, Ends, defined, freed, function_at, is_kind, put, same_kinds, static_sizes, with_memory}
use Rattle.dc_goto.specs.Machine.{first_memory}
use Rattle.dc_machine.specs.Step.{IsAlone, acting}
use Rattle.dc_machine.proofs.Parts.{ends_named}
use Rattle.dc_machine.proofs.Ends.{nothing-behind}
use Rattle.dc_writeset.specs.Sets.{PlainSets, with_freed}
use mir.Syntax.{w128}

-- a value that isn't there
pub ends_undefined : {A E : Type 0} (name : List ℕ) (run : List ℕ → Then) (state s : List ℕ → Now) (go : A → Then) (o : Option A) (r : Result (Option End) E) (h : Hearing)
    → run [] ≡ defined name o (s []) go → o ≡ None → (s []).world.choices ≡ [] → IfOk r (λ x. x ≡ Some (end.Undefined name)) → IsAlone acting run state r h h
ends_undefined name run state s go o r h e none dry is =
    ends_named acting run state (end.Undefined name) (s []).world r h is refl (e ∙ ap (λ o. defined name o (s []) go) none) dry

-- and one that is
pub defined-some : {A : Type 0} (name : List ℕ) (o : Option A) (s : Now) (go : A → Then) (v : A) → o ≡ Some v → defined name o s go ≡ go v
defined-some name o s go v e = ap (λ o. defined name o s go) e

-- a write of no bytes, of some that can't be written, and of some that can
pub put-nothing : (name : List ℕ) (pointer n : ℕ) (memory : Option Memory) (s : Now) → n ≡ 0 → put name pointer n memory s ≡ Next [] s
put-nothing name pointer n memory s e = rw e refl

pub put-refused : (name : List ℕ) (pointer n : ℕ) (memory : Option Memory) (s : Now) → 0 < n → memory ≡ None → put name pointer n memory s ≡ Ends [] (Undefined name) s.world
put-refused name pointer zero memory s some e = absurd (omega (arith, some))
put-refused name pointer (suc n) memory s some e = rw e refl

pub put-written : (name : List ℕ) (pointer n : ℕ) (memory : Option Memory) (after : Memory) (s : Now) → 0 < n → memory ≡ Some after
    → put name pointer n memory s ≡ Next (Did (Write (object_of pointer) (offset_of pointer) n) ∷ []) (with_memory after s)
put-written name pointer zero memory after s some e = absurd (omega (arith, some))
put-written name pointer (suc n) memory after s some e = rw e refl

-- an object that died and was noted
pub freed-as : (s : Now) (sets : PlainSets) (memory : Memory) (object number : ℕ) → number ≡ object → sets ≡ with_freed number s.sets → memory ≡ changed number died s.world.memory
    → freed object s ≡ record s { sets = sets; world = record s.world { memory = memory } }
freed-as s sets memory object number e f g = rw (f, g, e) refl

pub told-free : (o o' : ℕ) (h : Hearing) → o ≡ o' → happens (Free o) h ≡ happens (Free o') h
told-free o o' h e = ap (λ o. happens (Free o) h) e

-- a value of each kind takes some
pub some-bytes : (kind : MemKind) → 0 < size_of kind
some-bytes Truth = omega arith
some-bytes S8 = omega arith
some-bytes U8 = omega arith
some-bytes S16 = omega arith
some-bytes U16 = omega arith
some-bytes S32 = omega arith
some-bytes U32 = omega arith
some-bytes S64 = omega arith
some-bytes U64 = omega arith
some-bytes Ptr = omega arith

-- what was written, and what wasn't
pub is-written : (after : Option Memory) (old new : Memory) (written : Bool) → IsWritten written after old new → written ≡ true → after ≡ Some new
is-written after old new true h e = h
is-written after old new false h e = cc

pub not-written : (after : Option Memory) (old new : Memory) (written : Bool) → IsWritten written after old new → written ≡ false → after ≡ None
not-written after old new true h e = cc
not-written after old new false h e = h.0

-- kinds of other numbers aren't the same
pub other-kinds : (kinds others : List NumKind) → (length kinds ≡ length others → ⊥) → same_kinds kinds others ≡ false
other-kinds [] [] h = absurd (h refl)
other-kinds [] (l ∷ others) h = refl
other-kinds (k ∷ kinds) [] h = refl
other-kinds (k ∷ kinds) (l ∷ others) h = ap (λ b. is_kind k l && b) (other-kinds kinds others (λ e. h (ap suc e))) ∙ never (is_kind k l)
  where
    never : (b : Bool) → (b && false) ≡ false
    never true = refl
    never false = refl

-- kinds from an index on
pub kinds-from : (kinds others : List NumKind) (i : ℕ) (k l : NumKind) → i < length kinds → i < length others
    → same_kinds (drop i kinds) (drop i others) ≡ (is_kind (get_or kinds i k) (get_or others i l) && same_kinds (drop (i + 1) kinds) (drop (i + 1) others))
kinds-from [] others i k l g h = absurd (omega (arith, g))
kinds-from (x ∷ kinds) [] i k l g h = absurd (omega (arith, h))
kinds-from (x ∷ kinds) (y ∷ others) zero k l g h = refl
kinds-from (x ∷ kinds) (y ∷ others) (suc i) k l g h =
    let e : suc i + 1 ≡ suc (i + 1) = omega arith in
    rw e (kinds-from kinds others i k l (omega arith) (omega arith))

pub no-kinds-behind : (kinds others : List NumKind) (i : ℕ) → length kinds ≤ i → length others ≤ i → same_kinds (drop i kinds) (drop i others) ≡ true
no-kinds-behind kinds others i g h = rw (nothing-behind i kinds g, nothing-behind i others h) refl

-- what a reference to it shows
pub borrowed : {A B : Type 0} (f : A → B) (o : Option (Bor A)) (p : Option A) → option_copied o ≡ p → option_map (λ r. f r.now) o ≡ option_map f p
borrowed f None p e = ap (option_map f) e
borrowed f (Some r) p e = ap (option_map f) e

-- the function of an object
pub function-at : (functions : List Sig) (object : ℕ) → 0 < object → function_at functions object ≡ slice_get functions (object - 1)
function-at functions zero h = absurd (omega (arith, h))
function-at functions (suc n) h = let e : suc n - 1 ≡ n = omega arith in ap (slice_get functions) (sym e)

-- a list that was resized from none
pub resized : (n : ℕ) (xs all : List ℕ) → xs ≡ [] → all ≡ take n xs ++ replicate (n - length xs) 0 → all ≡ replicate n 0
resized n xs all e f = f ∙ ap (λ xs. take n xs ++ replicate (n - length xs) 0) e ∙ rw (take-nil n) (ap (λ k. replicate k 0) (omega arith))

pub full-test : (n m : ℕ) → n ≡ m → nat_le 65535 n ≡ nat_le object_limit m
full-test n m e = rw e refl

pub replicate-more : {A : Type 0} (n : ℕ) (x : A) → replicate (n + 1) x ≡ replicate n x ++ x ∷ []
replicate-more zero x = refl
replicate-more (suc n) x = let e : suc n + 1 ≡ suc (n + 1) = omega arith in rw e (ap (λ l. x ∷ l) (replicate-more n x))

to_z-of_z-small : (n : ℕ) → n < 2 ^ 127 → to_z w128 (of_z w128 (pos n)) ≡ pos n
to_z-of_z-small n h = omega (arith, ints)

pub told-write : (o f n o' f' n' : ℕ) (h : Hearing) → o ≡ o' → f ≡ f' → n ≡ n' → happens (Write o f n) h ≡ happens (Write o' f' n') h
told-write o f n o' f' n' h a b c = rw (a, b, c) refl

-- the start of an object, as the code has it
pub start-read : (n : ℕ) (z : ℤ) → n < 2 ^ 63 → z ≡ pos (start_of n) → to_z w128 (of_z w128 z) ≡ pos (start_of n)
unfolding start_of
start-read n z h e = rw e (to_z-of_z-small (n * 2 ^ 48) (omega arith))

-- a pushed function
pub objects-more : (memory memory' : Memory) (n : ℕ) (first : Memory) → memory ≡ first ++ replicate n function_object → memory' ≡ memory ++ function_object ∷ []
    → memory' ≡ first ++ replicate (n + 1) function_object
objects-more memory memory' n first e f = f ∙ ap (λ l. l ++ function_object ∷ []) e ∙ append_assoc first (replicate n function_object) (function_object ∷ []) ∙ ap (λ l. first ++ l) (sym (replicate-more n function_object))

repeated : {A B : Type 0} (xs : List A) (b : B) → map (λ x. b) xs ≡ replicate (length xs) b
repeated [] b = refl
repeated (x ∷ xs) b = ap (λ l. b ∷ l) (repeated xs b)

map-map : {A B C : Type 0} (f : A → B) (g : B → C) (xs : List A) → map g (map f xs) ≡ map (λ x. g (f x)) xs
map-map f g [] = refl
map-map f g (x ∷ xs) = ap (λ l. g (f x) ∷ l) (map-map f g xs)

-- the memory of the start, in its two parts
pub first-objects : (p : GotoProgram) (none some all : Memory) (n : ℕ) (sizes : List ℕ) → none ≡ [] → n ≡ length p.functions → sizes ≡ static_sizes p
    → some ≡ none ++ replicate n function_object → all ≡ some ++ map (λ size. holding Static (replicate size 0)) sizes → all ≡ first_memory p
first-objects p none some all n sizes e count same f g =
    let front : some ≡ map (λ sig. function_object) p.functions = f ∙ rw (e, count) (sym (repeated p.functions function_object)) in
    let back : map (λ size. holding Static (replicate size 0)) sizes ≡ map (λ v. holding Static (replicate v.size 0)) p.statics =
    ap (map (λ size. holding Static (replicate size 0))) same ∙ map-map (λ v. v.size) (λ size. holding Static (replicate size 0)) p.statics in
    g ∙ ap (λ l. l ++ map (λ size. holding Static (replicate size 0)) sizes) front ∙ ap (λ l. map (λ sig. function_object) p.functions ++ l) back
