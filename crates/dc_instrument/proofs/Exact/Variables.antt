-- The variables of file scope are drawn, and written into objects of zero bytes.
use Rattle.std.proofs.Common.{◌≡◌, ℕ, zero, suc, ◌-◌, ◌%◌, List, [], ◌∷◌, ◌++◌, length, refl, ap, ap₂, sym, ◌∙◌, subst, arith, append_assoc, length-append}
use Rattle.std.specs.Prelude.{replicate, map}
use Rattle.dc_memory.specs.declared.object.ObjKind.{ObjKind}
use Rattle.dc_memory.specs.declared.object.ObjKind.TheVariants.{Function, Static, Heap, Stack}
use Rattle.dc_memory.specs.declared.object.Object.{Object}
use Rattle.dc_memory.specs.Objects.{Memory, object_limit, size_limit, holding, update, changed}
use Rattle.dc_memory.specs.Places.{put_at, with_bytes}
use Rattle.dc_core.specs.Choices.{Drawn, Drew, Dry, Draws, ◌>>=◌, after, bind, give, tell, draw, draw_bytes}
use Rattle.dc_core.specs.Entry.{static_objects, live_object, outside_object, outside_objects, with_outside}
use Rattle.dc_core.specs.Event.{Event, Create, Draw}
use Rattle.dc_core.specs.Objects.{function_object, rewritten}
use Rattle.dc_core.specs.WellFormed.{AreBytes, IsStatic, AreStatics}
use Rattle.dc_instrument.proofs.Exact.Sets.{IsBare, AreBare}

-- What is drawn -------------------------------------------------------------------------------------------------------

-- so many bytes, where they were drawn
abbrev DrewBytes : ℕ → Drawn (List ℕ) → Type 0
DrewBytes n (Drew bytes rest events) = (length bytes ≡ n) × AreBytes bytes
DrewBytes n (Dry events) = Unit {0}

drawn-bytes : (n : ℕ) (choices : List ℕ) → DrewBytes n (draw_bytes n choices)
drawn-bytes zero choices = (refl, tt)
drawn-bytes (suc n) [] = tt
drawn-bytes (suc n) (number ∷ choices) = by (draw_bytes n choices) (drawn-bytes n choices)
  where
    by : (d : Drawn (List ℕ)) → DrewBytes n d → DrewBytes (suc n) (after (Draw number ∷ []) (bind d (λ bytes. give (number % 256 ∷ bytes))))
    by (Drew bytes rest events) h = (ap suc h.0, (omega arith, h.1))
    by (Dry events) h = tt

-- variables of these sizes, where they were drawn
abbrev pub DrewStatics : List ℕ → Drawn Memory → Type 0
DrewStatics sizes (Drew statics rest events) = AreStatics sizes statics
DrewStatics sizes (Dry events) = Unit {0}

statics-after : (sizes : List ℕ) (events : List Event) (d : Drawn Memory) → DrewStatics sizes d → DrewStatics sizes (after events d)
statics-after sizes events (Drew statics rest more) h = h
statics-after sizes events (Dry more) h = tt

pub drawn-statics : (sizes : List ℕ) (choices : List ℕ) → DrewStatics sizes (static_objects sizes choices)
drawn-statics [] choices = tt
drawn-statics (size ∷ sizes) choices = by (draw_bytes size choices) (drawn-bytes size choices) (λ rest. drawn-statics sizes rest)
  where
    more : (bytes : List ℕ) (d : Drawn Memory) → (length bytes ≡ size) × AreBytes bytes → DrewStatics sizes d → DrewStatics (size ∷ sizes) (bind d (λ objects. give (holding Static bytes ∷ objects)))
    more bytes (Drew objects rest events) h k = (record { kind = refl; live = refl; sized = h.0; bytes = h.1 }, k)
    more bytes (Dry events) h k = tt

    by : (d : Drawn (List ℕ)) → DrewBytes size d → ((rest : List ℕ) → DrewStatics sizes (static_objects sizes rest))
        → DrewStatics (size ∷ sizes) (bind d (λ bytes. static_objects sizes >>= λ objects. give (holding Static bytes ∷ objects)))
    by (Drew bytes rest events) h again =
        statics-after (size ∷ sizes) events (bind (static_objects sizes rest) (λ objects. give (holding Static bytes ∷ objects))) (more bytes (static_objects sizes rest) h (again rest))
    by (Dry events) h again = tt

-- Functions have no bytes -------------------------------------------------------------------------------------------

statics_bare : (sizes : List ℕ) (statics : Memory) → AreStatics sizes statics → AreBare statics
statics_bare [] [] h = tt
statics_bare [] (object ∷ statics) h = absurd h
statics_bare (size ∷ sizes) [] h = absurd h
statics_bare (size ∷ sizes) (object ∷ statics) h = ((λ e. absurd (is_static h.0.kind e)), statics_bare sizes statics h.1)
  where
    is_static : object.kind ≡ Static → object.kind ≡ Function → ⊥
    is_static k e = let f : Static ≡ Function = sym k ∙ e in cc

bare_append : (front behind : Memory) → AreBare front → AreBare behind → AreBare (front ++ behind)
bare_append [] behind h k = k
bare_append (object ∷ front) behind h k = (h.0, bare_append front behind h.1 k)

-- what was drawn, if anything was, is of this sort
abbrev Drawing : {A : Type 0} → (A → Type 0) → Drawn A → Type 0
Drawing P (Drew value rest events) = P value
Drawing P (Dry events) = Unit {0}

drawing_after : {A : Type 0} (P : A → Type 0) (events : List Event) (d : Drawn A) → Drawing P d → Drawing P (after events d)
drawing_after P events (Drew value rest more) h = h
drawing_after P events (Dry more) h = tt

drawing_bind : {A B : Type 0} (P : A → Type 0) (Q : B → Type 0) (d : Drawn A) (f : A → Draws B) → Drawing P d → ((a : A) (rest : List ℕ) → P a → Drawing Q (f a rest)) → Drawing Q (bind d f)
drawing_bind P Q (Drew value rest events) f h go = drawing_after Q events (f value rest) (go value rest h)
drawing_bind P Q (Dry events) f h go = tt

drawing_any : {A : Type 0} (d : Drawn A) → Drawing (λ a. Unit {0}) d
drawing_any (Drew value rest events) = tt
drawing_any (Dry events) = tt

live_bare : (number : ℕ) (kind : ObjKind) (choices : List ℕ) → (kind ≡ Function → ⊥) → Drawing IsBare (live_object number kind choices)
live_bare number kind choices other =
    drawing_bind (λ size. Unit {0}) IsBare (draw (suc size_limit) choices) (λ size. tell (Create number) (draw_bytes size >>= λ bytes. give (holding kind bytes)))
    (drawing_any (draw (suc size_limit) choices))
    (λ size rest u.
    drawing_after IsBare (Create number ∷ []) ((draw_bytes size >>= λ bytes. give (holding kind bytes)) rest)
    (drawing_bind (λ bytes. Unit {0}) IsBare (draw_bytes size rest) (λ bytes. give (holding kind bytes)) (drawing_any (draw_bytes size rest)) (λ bytes left u e. absurd (other e))))

outside_bare : (number sort : ℕ) (choices : List ℕ) → Drawing IsBare (outside_object number sort choices)
outside_bare number zero choices = λ e. refl
outside_bare number (suc zero) choices = λ e. refl
outside_bare number (suc (suc zero)) choices = live_bare number Heap choices (λ e. cc)
outside_bare number (suc (suc (suc k))) choices = live_bare number Stack choices (λ e. cc)

objects_bare : (number n : ℕ) (choices : List ℕ) → Drawing AreBare (outside_objects number n choices)
objects_bare number zero choices = tt
objects_bare number (suc n) choices =
    drawing_bind (λ sort. Unit {0}) AreBare (draw 4 choices) (λ sort. outside_object number sort >>= λ object. outside_objects (suc number) n >>= λ objects. give (object ∷ objects))
    (drawing_any (draw 4 choices))
    (λ sort rest u.
    drawing_bind IsBare AreBare (outside_object number sort rest) (λ object. outside_objects (suc number) n >>= λ objects. give (object ∷ objects))
    (outside_bare number sort rest)
    (λ object left h.
    drawing_bind AreBare AreBare (outside_objects (suc number) n left) (λ objects. give (object ∷ objects)) (objects_bare (suc number) n left) (λ objects last k. (h, k))))

-- the memory at entry
entry_bare : (memory : Memory) (choices : List ℕ) → AreBare memory → Drawing AreBare (with_outside memory choices)
unfolding with_outside
entry_bare memory choices h =
    drawing_bind (λ n. Unit {0}) AreBare (draw (suc object_limit - length memory) choices) (λ n. outside_objects (suc (length memory)) n >>= λ objects. give (memory ++ objects))
    (drawing_any (draw (suc object_limit - length memory) choices))
    (λ n rest u.
    drawing_bind AreBare AreBare (outside_objects (suc (length memory)) n rest) (λ objects. give (memory ++ objects))
    (objects_bare (suc (length memory)) n rest)
    (λ objects left k. bare_append memory objects h k))

pub drawn-bare : (sizes : List ℕ) (statics : Memory) (choices : List ℕ) (memory : Memory) (rest : List ℕ) (events : List Event)
    → AreStatics sizes statics → with_outside (function_object ∷ statics) choices ≡ Drew memory rest events → AreBare memory
drawn-bare sizes statics choices memory rest events are e =
    subst (Drawing AreBare) e (entry_bare (function_object ∷ statics) choices ((λ e. refl), statics_bare sizes statics are))

-- What is written -----------------------------------------------------------------------------------------------------

-- bytes in place of as many others
put-all : (bytes : List ℕ) → put_at 0 bytes (replicate (length bytes) 0) ≡ bytes
put-all [] = refl
put-all (byte ∷ bytes) = ap (λ l. byte ∷ l) (put-all bytes)

-- a variable in place of zero bytes
static-written : (size : ℕ) (object : Object) → IsStatic size object → with_bytes 0 object.bytes (holding Static (replicate size 0)) ≡ object
static-written size object h =
    ap (λ n. holding Static (put_at 0 object.bytes (replicate n 0))) (sym h.sized)
    ∙ ap (holding Static) (put-all object.bytes)
    ∙ ap₂ (λ kind live. record { kind = kind; live = live; bytes = object.bytes }) (sym h.kind) (sym h.live)

-- the object behind so many
update-behind : (front : Memory) (object : Object) (rest : Memory) (change : Object → Object) → update (length front) change (front ++ object ∷ rest) ≡ front ++ change object ∷ rest
update-behind [] object rest change = refl
update-behind (x ∷ front) object rest change = ap (λ memory. x ∷ memory) (update-behind front object rest change)

-- all variables in place of zero bytes
pub rewritten-statics : (front : Memory) (sizes : List ℕ) (statics : Memory) → AreStatics sizes statics
    → rewritten (suc (length front)) statics (front ++ map (λ size. holding Static (replicate size 0)) sizes) ≡ front ++ statics
rewritten-statics front [] [] h = refl
rewritten-statics front [] (object ∷ statics) h = absurd h
rewritten-statics front (size ∷ sizes) [] h = absurd h
rewritten-statics front (size ∷ sizes) (object ∷ statics) h =
    let zeros = map (λ size. holding Static (replicate size 0)) sizes in
    let more = front ++ object ∷ [] in
    let here : changed (suc (length front)) (with_bytes 0 object.bytes) (front ++ holding Static (replicate size 0) ∷ zeros) ≡ more ++ zeros =
    update-behind front (holding Static (replicate size 0)) zeros (with_bytes 0 object.bytes)
    ∙ ap (λ o. front ++ o ∷ zeros) (static-written size object h.0)
    ∙ sym (append_assoc front (object ∷ []) zeros) in
    let long : suc (length front) ≡ length more = omega (arith, length-append front (object ∷ [])) in
    ap (rewritten (suc (suc (length front))) statics) here
    ∙ ap (λ n. rewritten (suc n) statics (more ++ zeros)) long
    ∙ rewritten-statics more sizes statics h.1
    ∙ append_assoc front (object ∷ []) statics
