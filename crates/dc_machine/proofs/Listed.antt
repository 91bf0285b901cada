-- Objects and bytes that are drawn one after another.
use Rattle.std.proofs.Common.{◌≡◌, ℕ, zero, suc, ◌+◌, ◌-◌, ◌*◌, ◌<◌, ◌≤◌, ◌^◌, ℤ, pos, Bool, true, false, nat_lt, List, [], ◌∷◌, ◌++◌, length, take, drop, map, reverse, Option, Some, None, refl, ap, sym, ◌∙◌, arith, to_z, of_z}
use Rattle.std.specs.Prelude.{replicate, slice_get, if◌then◌else◌}
use Rattle.std.specs.Option.{option_map}
use Rattle.std.proofs.lemmas.Bool.Decides.{nat_tests}
use Rattle.dc_core.specs.Choices.{Draws, ◌>>=◌, draw, give}
use Rattle.dc_core.specs.Event as plain
use Rattle.dc_core.specs.World.{is_full}
use Rattle.dc_memory.specs.declared.object.ObjKind.{ObjKind}
use Rattle.dc_memory.specs.declared.object.ObjKind.TheVariants.{Heap}
use Rattle.dc_memory.specs.Objects.{Memory, holding, size_limit}
use Rattle.dc_memory.specs.Context.{Range}
use Rattle.dc_memory.specs.Places.{start_of}
use Rattle.dc_goto.specs.declared.operands.Bytes.{Bytes}
use Rattle.dc_goto.specs.Values.{as_length}
use Rattle.dc_goto.specs.Acts.{Now, Then, Next, allocated, allocating, creating, drawn, first_bytes, with_local, with_memory, with_register}
use Rattle.dc_world.specs.Told.{Supply, Hearing}
use Rattle.dc_world.specs.Drawing.{HasDrawn, RanDry, BrokeOff}
use Rattle.dc_world.proofs.Drawing.{IsTaken-none}
use Rattle.dc_machine.specs.Creating.{created}
use Rattle.dc_writeset.specs.Sets.{PlainSet, TaggedObject, TaggedRange, frees_of, innermost, parts_of, ranges_of}
use Rattle.dc_machine.specs.Step.{GoesOn, HasEnded, IsCutOff, acting}
use Rattle.dc_machine.specs.View.{now_view}
use Rattle.dc_machine.specs.declared.now.Now.{Now as Held}
use Rattle.dc_machine.proofs.Acts.{resized, start-read}
use Rattle.dc_machine.proofs.Draws.{AreStraight, creating-full, creating-drawn, drawn_goes, drawn_ends, drawn_cut, made}
use Rattle.dc_machine.proofs.Ends.{nothing-behind, numbers-from-end}
use Rattle.std.proofs.lemmas.List.{length-map}
use mir.Syntax.{w128}

-- a memory with an object behind the others
abbrev pub with_last : ObjKind → Memory → List ℕ → Draws Memory
with_last kind memory values = give (memory ++ holding kind values ∷ [])

-- an object whose bytes are still to be drawn
abbrev pub filling : ObjKind → Bytes → ℕ → Memory → Draws Memory
filling kind bytes size memory = first_bytes bytes size >>= with_last kind memory

-- a list that was resized from one of no length
pub zeros : (n k : ℕ) (xs all : List ℕ) → xs ≡ [] → k ≡ length xs → all ≡ take n xs ++ replicate (n - k) 0 → all ≡ replicate n 0
zeros n k xs all e f g = resized n xs all e (g ∙ ap (λ k. take n xs ++ replicate (n - k) 0) f)

-- The same by another name ----------------------------------------------------------------------------------------------

pub goes_same : (run run' : List ℕ → Then) (state : List ℕ → Now) (s s' : Supply) (h h' : Hearing) → ((choices : List ℕ) → run' choices ≡ run choices) → GoesOn acting run state s s' h h' → GoesOn acting run' state s s' h h'
goes_same run run' state s s' h h' f a = record { numbers = a.numbers; notes = a.notes; goes = λ rest. f (a.numbers ++ rest) ∙ a.goes rest; taken = a.taken; heard = a.heard }

pub ends_same : (run run' : List ℕ → Then) (end : plain.End) (s s' : Supply) (h h' : Hearing) → ((choices : List ℕ) → run' choices ≡ run choices) → HasEnded acting run end s s' h h' → HasEnded acting run' end s s' h h'
ends_same run run' end s s' h h' f a = record { numbers = a.numbers; notes = a.notes; world = a.world; ends = f a.numbers ∙ a.ends; none_left = a.none_left; taken = a.taken; heard = a.heard }

pub cut_same : (run run' : List ℕ → Then) (s s' : Supply) (h h' : Hearing) → ((choices : List ℕ) → run' choices ≡ run choices) → IsCutOff acting run s s' h h' → IsCutOff acting run' s s' h h'
cut_same run run' s s' h h' f a = record {
  numbers = a.numbers;
  notes = a.notes;
  front = λ rest. let g = a.front rest in (g.0, ap acting.notes (f (a.numbers ++ rest)) ∙ g.1);
  taken = a.taken;
  heard = a.heard;
}

-- An object is made where one more may be --------------------------------------------------------------------------------

-- the answer is that of the test
abbrev pub IsFullTest : Bool → Held → Type 0
IsFullTest full now = (choices : List ℕ) → full ≡ is_full (now_view now choices).world

made-as : (kind : ObjKind) (bytes : Bytes) (size : ℕ) (now : Held) (full : Bool) (go : ℕ → Now → Then) → IsFullTest full now → full ≡ false → (choices : List ℕ)
    → creating kind bytes size (now_view now choices) go ≡ drawn (created kind bytes size now.memory choices) (now_view now choices) (made (suc (length now.memory)) go)
made-as kind bytes size now full go tested room choices = creating-drawn kind bytes size (now_view now choices) go (sym (tested choices) ∙ room)

pub making_full : (kind : ObjKind) (bytes : Bytes) (size : ℕ) (now : Held) (full : Bool) (go : ℕ → Now → Then) (s : Supply) (h : Hearing) → IsFullTest full now → full ≡ true
    → HasEnded acting (λ choices. creating kind bytes size (now_view now choices) go) plain.ObjectLimit s s h h
making_full kind bytes size now full go s h tested e = record {
  numbers = [];
  notes = [];
  world = (now_view now []).world;
  ends = creating-full kind bytes size (now_view now []) go (sym (tested []) ∙ e);
  none_left = refl;
  taken = IsTaken-none s;
  heard = refl;
}

pub making_cut : (kind : ObjKind) (bytes : Bytes) (size : ℕ) (now : Held) (full : Bool) (go : ℕ → Now → Then) (s s' : Supply) (h h' : Hearing) → IsFullTest full now → full ≡ false → AreStraight go
    → BrokeOff (created kind bytes size now.memory) s s' h h' → IsCutOff acting (λ choices. creating kind bytes size (now_view now choices) go) s s' h h'
making_cut kind bytes size now full go s s' h h' tested room straight d =
    cut_same _ _ s s' h h' (made-as kind bytes size now full go tested room)
    (drawn_cut (created kind bytes size now.memory) (now_view now) (made (suc (length now.memory)) go) s s' h h' (λ memory t. straight (suc (length now.memory)) (with_memory memory t)) d)

pub making_ends : (kind : ObjKind) (bytes : Bytes) (size : ℕ) (now : Held) (full : Bool) (go : ℕ → Now → Then) (s s' : Supply) (h h' : Hearing) → IsFullTest full now → full ≡ false
    → RanDry (created kind bytes size now.memory) s s' h h' → HasEnded acting (λ choices. creating kind bytes size (now_view now choices) go) plain.ChoicesEnded s s' h h'
making_ends kind bytes size now full go s s' h h' tested room d =
    ends_same _ _ plain.ChoicesEnded s s' h h' (made-as kind bytes size now full go tested room)
    (drawn_ends (created kind bytes size now.memory) (now_view now) (made (suc (length now.memory)) go) s s' h h' d)

pub making_goes : (kind : ObjKind) (bytes : Bytes) (size : ℕ) (now : Held) (full : Bool) (go : ℕ → Now → Then) (memory : Memory) (after : List ℕ → Now) (s s' : Supply) (h h' : Hearing) → IsFullTest full now → full ≡ false
    → ((rest : List ℕ) → go (suc (length now.memory)) (with_memory memory (now_view now rest)) ≡ Next [] (after rest)) → HasDrawn (created kind bytes size now.memory) memory s s' h h'
    → GoesOn acting (λ choices. creating kind bytes size (now_view now choices) go) after s s' h h'
making_goes kind bytes size now full go memory after s s' h h' tested room e d =
    goes_same _ _ after s s' h h' (made-as kind bytes size now full go tested room)
    (drawn_goes (created kind bytes size now.memory) (now_view now) after (made (suc (length now.memory)) go) memory s s' h h' (λ choices rest. refl) e d)

-- The start of an object in a register -----------------------------------------------------------------------------------

abbrev pub then_heap : ℕ → ℕ → Now → Then
then_heap r object t = Next [] (with_register r (Some (pos (start_of object))) t)

abbrev pub then_local : ℕ → ℕ → Now → Then
then_local r object t = Next [] (with_register r (Some (pos (start_of object))) (with_local object t))

pub heap-put : (r number n : ℕ) (z : ℤ) (s t : Now) → number < 2 ^ 63 → number ≡ suc n → z ≡ pos (start_of number) → t ≡ with_register r (Some (to_z w128 (of_z w128 z))) s → then_heap r (suc n) s ≡ Next [] t
heap-put r number n z s t few e f g = rw (g, start-read number z few f, e) refl

pub local-put : (r number n : ℕ) (z : ℤ) (before reserved after : List ℕ) (s t : Now) → number < 2 ^ 63 → number ≡ suc n → z ≡ pos (start_of number) → s.world.locals ≡ reverse before → reserved ≡ before → after ≡ reserved ++ number ∷ []
    → t ≡ with_register r (Some (to_z w128 (of_z w128 z))) (record s { world = record s.world { locals = reverse after } }) → then_local r (suc n) s ≡ Next [] t
local-put r number n z before reserved after s t few e f locals same more g =
    let all : reverse after ≡ suc n ∷ s.world.locals =
    ap reverse more ∙ numbers-from-end reserved number ∙ ap (λ xs. number ∷ reverse xs) same ∙ ap (λ k. k ∷ reverse before) e ∙ ap (λ xs. suc n ∷ xs) (sym locals) in
    heap-put r number n z (with_local (suc n) s) t few e f (g ∙ ap (λ xs. with_register r (Some (to_z w128 (of_z w128 z))) (record s { world = record s.world { locals = xs } })) all)

-- Null, or a new object -----------------------------------------------------------------------------------------------------

-- by the number that was drawn
abbrev pub then_some : ℕ → Bytes → ℕ → ℕ → Now → Then
then_some r bytes size n t = allocated r bytes size n t

pub allocating-large : (r : ℕ) (bytes : Bytes) (size : ℕ) (s : Now) → 16777216 < size → allocating r bytes size s ≡ Next [] (with_register r (Some (pos 0)) s)
allocating-large r bytes size s h =
    let large : nat_lt size_limit size ≡ true = grind (arith, nat_tests) in
    ap (λ b. if b then Next [] (with_register r (Some (pos 0)) s) else drawn (draw 2 s.world.choices) s (then_some r bytes size)) large

pub allocating-small : (r : ℕ) (bytes : Bytes) (size : ℕ) (s : Now) → size ≤ 16777216 → allocating r bytes size s ≡ drawn (draw 2 s.world.choices) s (then_some r bytes size)
allocating-small r bytes size s h =
    let small : nat_lt size_limit size ≡ false = grind (arith, nat_tests) in
    ap (λ b. if b then Next [] (with_register r (Some (pos 0)) s) else drawn (draw 2 s.world.choices) s (then_some r bytes size)) small

pub some-made : (r : ℕ) (bytes : Bytes) (size n : ℕ) (s : Now) → 0 < n → then_some r bytes size n s ≡ creating Heap bytes size s (then_heap r)
some-made r bytes size zero s h = absurd (omega (arith, h))
some-made r bytes size (suc n) s h = refl

pub some-null : (r : ℕ) (bytes : Bytes) (size n : ℕ) (s : Now) → n ≡ 0 → then_some r bytes size n s ≡ Next [] (with_register r (Some (pos 0)) s)
some-null r bytes size n s e = ap (λ n. then_some r bytes size n s) e

-- the product of two lengths, as the code has them
pub product : (a b : ℕ) (x y x' y' : ℤ) → x' ≡ x → y' ≡ y → a ≡ as_length x' → b ≡ as_length y' → as_length x * as_length y ≡ a * b
product a b x y x' y' e f g h = rw (g, h, e, f) refl

-- What the innermost set names ------------------------------------------------------------------------------------------

abbrev pub named_ranges : List PlainSet → List Range
named_ranges sets = map (λ r. r.range) (ranges_of (innermost sets))

abbrev pub named_frees : List PlainSet → List ℕ
named_frees sets = map (λ f. f.object) (frees_of (innermost sets))

pub drop-none : {A : Type 0} (xs : List A) → xs ≡ drop 0 xs
drop-none [] = refl
drop-none (x ∷ xs) = refl

abbrev pub range_of : ℕ → ℕ → ℕ → Range
range_of object from len = record { object = object; from = from; len = len }

-- the range at an index stands before the others
ranged-at : (xs : List TaggedRange) (k object from len : ℕ) → Some (object, from, len) ≡ option_map parts_of (slice_get xs k)
    → drop k (map (λ r. r.range) xs) ≡ range_of object from len ∷ drop (k + 1) (map (λ r. r.range) xs)
ranged-at [] k object from len e = cc
ranged-at (x ∷ xs) zero object from len e =
    let same : (object, from, len) ≡ parts_of x = cc in
    rw (ap (λ p. p.0) same, ap (λ p. p.1) same, ap (λ p. p.2) same) (ap (λ l. x.range ∷ l) (drop-none (map (λ r. r.range) xs)))
ranged-at (x ∷ xs) (suc k) object from len e =
    let n : suc k + 1 ≡ suc (k + 1) = omega arith in
    rw n (ranged-at xs k object from len e)

pub range-there : (sets : List PlainSet) (k object from len : ℕ) (o : Option (ℕ × ℕ × ℕ)) → o ≡ Some (object, from, len) → o ≡ option_map parts_of (slice_get (ranges_of (innermost sets)) k)
    → drop k (named_ranges sets) ≡ range_of object from len ∷ drop (k + 1) (named_ranges sets)
range-there sets k object from len o e f = ranged-at (ranges_of (innermost sets)) k object from len (sym e ∙ f)

free-at : (xs : List TaggedObject) (k object : ℕ) → Some object ≡ option_map (λ f. f.object) (slice_get xs k)
    → drop k (map (λ f. f.object) xs) ≡ object ∷ drop (k + 1) (map (λ f. f.object) xs)
free-at [] k object e = cc
free-at (x ∷ xs) zero object e =
    let same : object ≡ x.object = cc in
    rw same (ap (λ l. x.object ∷ l) (drop-none (map (λ f. f.object) xs)))
free-at (x ∷ xs) (suc k) object e =
    let n : suc k + 1 ≡ suc (k + 1) = omega arith in
    rw n (free-at xs k object e)

pub free-there : (sets : List PlainSet) (k object : ℕ) (o : Option ℕ) → o ≡ Some object → o ≡ option_map (λ f. f.object) (slice_get (frees_of (innermost sets)) k)
    → drop k (named_frees sets) ≡ object ∷ drop (k + 1) (named_frees sets)
free-there sets k object o e f = free-at (frees_of (innermost sets)) k object (sym e ∙ f)

-- there is one at each index below their number
pub not-there : {A B : Type 0} (f : A → B) (xs : List A) (k : ℕ) (o : Option B) → o ≡ None → o ≡ option_map f (slice_get xs k) → k < length xs → ⊥
not-there f [] k o e g h = absurd (omega (arith, h))
not-there f (x ∷ xs) zero o e g h = cc
not-there f (x ∷ xs) (suc k) o e g h = not-there f xs k o e g (omega (arith, h))

pub no-more : {A B : Type 0} (f : A → B) (xs : List A) (k : ℕ) → length xs ≤ k → drop k (map f xs) ≡ []
no-more f xs k h = nothing-behind k (map f xs) (rw (length-map xs f) h)

-- the object at an index, where the sets are still those of the start
pub first-free : (now old : List PlainSet) (k object : ℕ) (o : Option ℕ) → now ≡ old → o ≡ Some object → o ≡ option_map (λ f. f.object) (slice_get (frees_of (innermost now)) k)
    → drop k (named_frees old) ≡ object ∷ drop (k + 1) (named_frees old)
first-free now old k object o same e f = free-there old k object o e (f ∙ ap (λ sets. option_map (λ f. f.object) (slice_get (frees_of (innermost sets)) k)) same)

pub none-free : (now old : List PlainSet) (k : ℕ) (o : Option ℕ) → now ≡ old → o ≡ None → o ≡ option_map (λ f. f.object) (slice_get (frees_of (innermost now)) k) → k < length (frees_of (innermost old)) → ⊥
none-free now old k o same e f h = not-there (λ f. f.object) (frees_of (innermost old)) k o e (f ∙ ap (λ sets. option_map (λ f. f.object) (slice_get (frees_of (innermost sets)) k)) same) h
