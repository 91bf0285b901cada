-- Each well-formed memory with any arguments is the entry of some list of choices.
use Rattle.std.proofs.Common.{◌≡◌, ℕ, suc, ◌+◌, ◌-◌, ◌^◌, ◌<◌, ◌≤◌, Bool, true, false, List, [], ◌∷◌, ◌++◌, length, refl, ap, ap₂, sym, arith, ℤ, pos}
use Rattle.std.specs.Prelude.{flat_map, replicate}
use Rattle.std.specs.List.{AllByRecursion}
use Rattle.std.proofs.Math.Nat.{mod-eq_of_lt}
use Rattle.std.proofs.lemmas.List.{append_assoc, length-append}
use Rattle.dc_num.specs.declared.kind.NumKind.{NumKind}
use Rattle.dc_num.specs.Kinds.{bits_of, IsValue}
use Rattle.dc_num.specs.Conversions.{bits, converted}
use Rattle.dc_num.proofs.Values.{bits-below}
use Rattle.dc_core.specs.Choices.{Drawn, Drew, Dry, Draws, ◌>>=◌, after, bind, give, tell, draw, draw_bytes, draw_value}
use Rattle.dc_core.specs.Entry.{static_objects, live_object, dead_object, outside_object, outside_objects, with_outside, draw_values, Entered, entry}
use Rattle.dc_core.specs.Event.{Event, Create}
use Rattle.dc_memory.specs.declared.object.ObjKind.{ObjKind}
use Rattle.dc_memory.specs.declared.object.ObjKind.TheVariants.{Function, Static, Heap, Stack}
use Rattle.dc_memory.specs.declared.object.Object.{Object}
use Rattle.dc_memory.specs.Objects.{Memory, object_limit, size_limit, holding}
use Rattle.dc_core.specs.Objects.{function_object}
use Rattle.dc_core.specs.WellFormed.{AreBytes, AreStatics, IsOutside, IsWellFormed, AreValues, sort_of, drawn_bytes, live_choices, outside_choices, value_choices, entry_choices, Gives}
use Rattle.dc_core.proofs.Converted.{converted-bits}

-- events before leave what is given
Gives-after : {A : Type 0} (events : List Event) (d : Drawn A) (a : A) (left : List ℕ) → Gives d a left → Gives (after events d) a left
Gives-after events (Drew value rest more) a left h = h
Gives-after events (Dry more) a left h = h

-- one draw behind the other
Gives-bind : {A B : Type 0} (d : Drawn A) (f : A → Draws B) (a : A) (middle : List ℕ) (b : B) (left : List ℕ)
    → Gives d a middle → Gives (f a middle) b left → Gives (bind d f) b left
Gives-bind (Drew value rest events) f a middle b left first second = Gives-after events (f value rest) b left (rw (first.0, first.1) second)
Gives-bind (Dry events) f a middle b left first second = absurd first

Gives-draw : (k n : ℕ) (rest : List ℕ) → n < k → Gives (draw k (n ∷ rest)) n rest
Gives-draw k n rest lt = (mod-eq_of_lt lt, refl)

Gives-draw_bytes : (bytes rest : List ℕ) → AreBytes bytes → Gives (draw_bytes (length bytes) (bytes ++ rest)) bytes rest
Gives-draw_bytes [] rest h = (refl, refl)
Gives-draw_bytes (byte ∷ bytes) rest h =
    Gives-bind (draw 256 (byte ∷ bytes ++ rest)) (λ one. draw_bytes (length bytes) >>= λ others. give (one ∷ others)) byte (bytes ++ rest) (byte ∷ bytes) rest
    (Gives-draw 256 byte (bytes ++ rest) h.0)
    (Gives-bind (draw_bytes (length bytes) (bytes ++ rest)) (λ others. give (byte ∷ others)) bytes rest (byte ∷ bytes) rest (Gives-draw_bytes bytes rest h.1) (refl, refl))

-- an object of this kind and life is what is made of its bytes
object-is : (object : Object) (kind : ObjKind) (live : Bool) → object.kind ≡ kind → object.live ≡ live → record { kind = kind; live = live; bytes = object.bytes } ≡ object
object-is object kind live k l = ap₂ (λ a b. record { kind = a; live = b; bytes = object.bytes }) (sym k) (sym l)

Gives-static_objects : (sizes : List ℕ) (statics : Memory) (rest : List ℕ) → AreStatics sizes statics
    → Gives (static_objects sizes (flat_map drawn_bytes statics ++ rest)) statics rest
Gives-static_objects [] [] rest h = (refl, refl)
Gives-static_objects [] (object ∷ objects) rest h = absurd h
Gives-static_objects (size ∷ sizes) [] rest h = absurd h
Gives-static_objects (size ∷ sizes) (object ∷ objects) rest h =
    let others = flat_map drawn_bytes objects ++ rest in
    let bytes : Gives (draw_bytes size (object.bytes ++ others)) object.bytes others = rw (sym h.0.sized) (Gives-draw_bytes object.bytes others h.0.bytes) in
    let same : holding Static object.bytes ∷ objects ≡ object ∷ objects = ap (λ o. o ∷ objects) (object-is object Static true h.0.kind h.0.live) in
    rw (append_assoc object.bytes (flat_map drawn_bytes objects) rest)
    (Gives-bind (draw_bytes size (object.bytes ++ others)) (λ bs. static_objects sizes >>= λ os. give (holding Static bs ∷ os)) object.bytes others (object ∷ objects) rest
    bytes
    (Gives-bind (static_objects sizes others) (λ os. give (holding Static object.bytes ∷ os)) objects rest (object ∷ objects) rest (Gives-static_objects sizes objects rest h.1) (same, refl)))

Gives-dead_object : (number : ℕ) (kind : ObjKind) (bytes rest : List ℕ) → bytes ≡ [] → Gives (dead_object number kind rest) (record { kind = kind; live = false; bytes = bytes }) rest
Gives-dead_object number kind bytes rest none = (rw none refl, refl)

Gives-live_object : (number : ℕ) (kind : ObjKind) (bytes rest : List ℕ) → length bytes ≤ size_limit → AreBytes bytes
    → Gives (live_object number kind (length bytes ∷ bytes ++ rest)) (holding kind bytes) rest
Gives-live_object number kind bytes rest small h =
    Gives-bind (draw (suc size_limit) (length bytes ∷ bytes ++ rest)) (λ size. tell (Create number) (draw_bytes size >>= λ bs. give (holding kind bs))) (length bytes) (bytes ++ rest) (holding kind bytes) rest
    (Gives-draw (suc size_limit) (length bytes) (bytes ++ rest) (omega arith))
    (Gives-after (Create number ∷ []) ((draw_bytes (length bytes) >>= λ bs. give (holding kind bs)) (bytes ++ rest)) (holding kind bytes) rest
    (Gives-bind (draw_bytes (length bytes) (bytes ++ rest)) (λ bs. give (holding kind bs)) bytes rest (holding kind bytes) rest (Gives-draw_bytes bytes rest h) (refl, refl)))

Gives-outside_object : (number : ℕ) (kind : ObjKind) (live : Bool) (bytes rest : List ℕ) → IsOutside (record { kind = kind; live = live; bytes = bytes })
    → Gives (outside_object number (sort_of kind live) (live_choices live bytes ++ rest)) (record { kind = kind; live = live; bytes = bytes }) rest
Gives-outside_object number Heap false bytes rest h = Gives-dead_object number Heap bytes rest (h.dead refl)
Gives-outside_object number Stack false bytes rest h = Gives-dead_object number Stack bytes rest (h.dead refl)
Gives-outside_object number Heap true bytes rest h = Gives-live_object number Heap bytes rest h.small h.bytes
Gives-outside_object number Stack true bytes rest h = Gives-live_object number Stack bytes rest h.small h.bytes
Gives-outside_object number Function live bytes rest h = absurd h.kind
Gives-outside_object number Static live bytes rest h = absurd h.kind

sort-small : (kind : ObjKind) (live : Bool) → sort_of kind live < 4
sort-small Heap false = omega arith
sort-small Heap true = omega arith
sort-small Stack false = omega arith
sort-small Stack true = omega arith
sort-small Function false = omega arith
sort-small Function true = omega arith
sort-small Static false = omega arith
sort-small Static true = omega arith

Gives-outside_objects : (number : ℕ) (outside : Memory) (rest : List ℕ) → AllByRecursion IsOutside outside
    → Gives (outside_objects number (length outside) (flat_map outside_choices outside ++ rest)) outside rest
Gives-outside_objects number [] rest h = (refl, refl)
Gives-outside_objects number (object ∷ objects) rest h =
    let sort = sort_of object.kind object.live in
    let more = live_choices object.live object.bytes in
    let others = flat_map outside_choices objects ++ rest in
    rw (append_assoc more (flat_map outside_choices objects) rest)
    (Gives-bind (draw 4 (sort ∷ more ++ others)) (λ n. outside_object number n >>= λ o. outside_objects (suc number) (length objects) >>= λ os. give (o ∷ os)) sort (more ++ others) (object ∷ objects) rest
    (Gives-draw 4 sort (more ++ others) (sort-small object.kind object.live))
    (Gives-bind (outside_object number sort (more ++ others)) (λ o. outside_objects (suc number) (length objects) >>= λ os. give (o ∷ os)) object others (object ∷ objects) rest
    (Gives-outside_object number object.kind object.live object.bytes others h.0)
    (Gives-bind (outside_objects (suc number) (length objects) others) (λ os. give (object ∷ os)) objects rest (object ∷ objects) rest (Gives-outside_objects (suc number) objects rest h.1) (refl, refl))))

Gives-with_outside : (memory outside : Memory) (rest : List ℕ) → AllByRecursion IsOutside outside → length (memory ++ outside) ≤ object_limit
    → Gives (with_outside memory (length outside ∷ flat_map outside_choices outside ++ rest)) (memory ++ outside) rest
unfolding with_outside
Gives-with_outside memory outside rest h few =
    let long : length (memory ++ outside) ≡ length memory + length outside = length-append memory outside in
    let others = flat_map outside_choices outside ++ rest in
    Gives-bind (draw (suc object_limit - length memory) (length outside ∷ others)) (λ n. outside_objects (suc (length memory)) n >>= λ os. give (memory ++ os)) (length outside) others (memory ++ outside) rest
    (Gives-draw (suc object_limit - length memory) (length outside) others (omega arith))
    (Gives-bind (outside_objects (suc (length memory)) (length outside) others) (λ os. give (memory ++ os)) outside rest (memory ++ outside) rest (Gives-outside_objects (suc (length memory)) outside rest h) (refl, refl))

Gives-draw_value : (kind : NumKind) (value : ℤ) (rest : List ℕ) → IsValue kind value → Gives (draw_value kind (bits kind value ∷ rest)) value rest
Gives-draw_value kind value rest v =
    Gives-bind (draw (2 ^ bits_of kind) (bits kind value ∷ rest)) (λ n. give (converted kind (pos n))) (bits kind value) rest value rest
    (Gives-draw (2 ^ bits_of kind) (bits kind value) rest (bits-below kind value))
    (converted-bits kind value v, refl)

Gives-draw_values : (kinds : List NumKind) (values : List ℤ) (rest : List ℕ) → AreValues kinds values
    → Gives (draw_values kinds (value_choices kinds values ++ rest)) values rest
Gives-draw_values [] [] rest h = (refl, refl)
Gives-draw_values [] (value ∷ values) rest h = absurd h
Gives-draw_values (kind ∷ kinds) [] rest h = absurd h
Gives-draw_values (kind ∷ kinds) (value ∷ values) rest h =
    let others = value_choices kinds values ++ rest in
    Gives-bind (draw_value kind (bits kind value ∷ others)) (λ v. draw_values kinds >>= λ vs. give (v ∷ vs)) value others (value ∷ values) rest
    (Gives-draw_value kind value others h.0)
    (Gives-bind (draw_values kinds others) (λ vs. give (value ∷ vs)) values rest (value ∷ values) rest (Gives-draw_values kinds values rest h.1) (refl, refl))

pub Gives-entry : (functions : ℕ) (sizes : List ℕ) (kinds : List NumKind) (memory : Memory) (arguments : List ℤ) (w : IsWellFormed functions sizes memory) → AreValues kinds arguments → (more : List ℕ)
    → Gives (entry functions sizes kinds (entry_choices w.statics w.outside kinds arguments ++ more)) (record { memory = memory; arguments = arguments }) more
Gives-entry functions sizes kinds memory arguments w values more =
    let front = replicate functions function_object ++ w.statics in
    let values_left = value_choices kinds arguments ++ more in
    let outside_left = length w.outside ∷ flat_map outside_choices w.outside ++ values_left in
    let few : length (front ++ w.outside) ≤ object_limit = rw w.whole at w.few in
    let same : entry_choices w.statics w.outside kinds arguments ++ more ≡ flat_map drawn_bytes w.statics ++ outside_left =
    rw (
      append_assoc (flat_map drawn_bytes w.statics) (length w.outside ∷ (flat_map outside_choices w.outside ++ value_choices kinds arguments)) more,
      append_assoc (flat_map outside_choices w.outside) (value_choices kinds arguments) more,
    ) refl in
    let ending : Entered = record { memory = memory; arguments = arguments } in
    rw same
    (Gives-bind (static_objects sizes (flat_map drawn_bytes w.statics ++ outside_left)) (λ statics. with_outside (replicate functions function_object ++ statics) >>= λ m. draw_values kinds >>= λ vs. give (record { memory = m; arguments = vs })) w.statics outside_left ending more
    (Gives-static_objects sizes w.statics outside_left w.are_statics)
    (Gives-bind (with_outside front outside_left) (λ m. draw_values kinds >>= λ vs. give (record { memory = m; arguments = vs })) memory values_left ending more
    (rw w.whole (Gives-with_outside front w.outside values_left w.are_outside few))
    (Gives-bind (draw_values kinds values_left) (λ vs. give (record { memory = memory; arguments = vs })) arguments more ending more (Gives-draw_values kinds arguments more values) (refl, refl))))
