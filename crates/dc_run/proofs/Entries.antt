-- What is drawn at entry.
use Rattle.std.proofs.Common.{◌≡◌, ℕ, zero, suc, ◌-◌, ◌<◌, ◌≤◌, List, [], ◌∷◌, ◌++◌, length, map, refl, ap, sym, ◌∙◌, arith, subst, append-nil, length-append}
use Rattle.std.proofs.Math.Nat.{mod-lt}
use Rattle.std.specs.Prelude.{replicate}
use Rattle.dc_core.specs.Choices.{Drawn, Drew, Dry, Draws, ◌>>=◌, bind, give, draw, draw_bytes, after}
use Rattle.dc_core.specs.Event.{Event}
use Rattle.dc_memory.specs.Objects.{Memory}
use Rattle.dc_core.specs.Objects.{function_object}
use Rattle.dc_core.specs.Entry.{static_objects, static_sizes, outside_object, outside_objects, with_outside, entry_memory}
use Rattle.dc_core.specs.Program.{Program}
use Rattle.dc_world.specs.Told.{Supply, Hearing}
use Rattle.dc_world.specs.Drawing.{HasDrawn}
use Rattle.dc_program.specs.declared.program.StaticVariable.{StaticVariable}
use Rattle.dc_run.specs.Entry.{drawn_variables}

-- how many variables there are, as sizes
pub sizes_of : (xs : List StaticVariable) (n : ℕ) → n ≡ length xs → replicate {A = ℕ} n 4 ≡ map {A = List ℕ} {B = ℕ} (λ name. 4) (map (λ v. v.name) xs)
sizes_of [] n e = rw e refl
sizes_of (x ∷ xs) n e = rw e (ap (λ l. 4 ∷ l) (sizes_of xs (length xs) refl))

pub sizes_made : (made : List ℕ) (n : ℕ) (xs : List StaticVariable) → made ≡ replicate {A = ℕ} n 4 → n ≡ length xs → made ≡ map {A = List ℕ} {B = ℕ} (λ name. 4) (map (λ v. v.name) xs)
sizes_made made n xs a e = a ∙ sizes_of xs n e

-- objects behind the function
pub behind_function : (m m' objects : Memory) → m ≡ function_object ∷ [] → m' ≡ m ++ objects → m' ≡ function_object ∷ objects
behind_function m m' objects e f = f ∙ rw e refl

outside_parts : (d : Drawn Memory) → bind d (λ statics. with_outside (function_object ∷ statics)) ≡ bind (bind d (λ statics. give (function_object ∷ statics))) with_outside
outside_parts (Drew v r es) = ap (λ l. after l (with_outside (function_object ∷ v) r)) (sym (append-nil es))
outside_parts (Dry es) = refl

pub memory_parts : (p : Program) (choices : List ℕ) → entry_memory p choices ≡ (drawn_variables p >>= with_outside) choices
memory_parts p choices = outside_parts (static_objects (static_sizes p) choices)

-- How many objects there are --------------------------------------------------------------------------------------

-- a fact of what is drawn
abbrev EachDrawn : {A : Type 0} → (A → Type 0) → Drawn A → Type 0
EachDrawn P (Drew v r es) = P v
EachDrawn P (Dry es) = Unit {0}

each_after : {A : Type 0} (P : A → Type 0) (es : List Event) (d : Drawn A) → EachDrawn P d → EachDrawn P (after es d)
each_after P es (Drew v r ms) h = h
each_after P es (Dry ms) h = tt

each_bind : {A B : Type 0} (P : A → Type 0) (Q : B → Type 0) (d : Drawn A) (f : A → Draws B) → EachDrawn P d → ((v : A) (rest : List ℕ) → P v → EachDrawn Q (f v rest)) → EachDrawn Q (bind d f)
each_bind P Q (Drew v r es) f h k = each_after Q es (f v r) (k v r h)
each_bind P Q (Dry es) f h k = tt

each_any : {A : Type 0} (d : Drawn A) → EachDrawn (λ v. Unit {0}) d
each_any (Drew v r es) = tt
each_any (Dry es) = tt

count_statics : (sizes choices : List ℕ) → EachDrawn (λ objects. length objects ≡ length sizes) (static_objects sizes choices)
count_statics [] choices = refl
count_statics (size ∷ sizes) choices =
    each_bind (λ v. Unit {0}) (λ objects. length objects ≡ length (size ∷ sizes)) (draw_bytes size choices) _ (each_any (draw_bytes size choices))
    (λ bytes rest u. each_bind (λ objects. length objects ≡ length sizes) (λ objects. length objects ≡ length (size ∷ sizes)) (static_objects sizes rest) _ (count_statics sizes rest)
    (λ objects last e. ap suc e))

count_outside : (number n : ℕ) (choices : List ℕ) → EachDrawn (λ objects. length objects ≡ n) (outside_objects number n choices)
count_outside number zero choices = refl
count_outside number (suc n) choices =
    each_bind (λ v. Unit {0}) (λ objects. length objects ≡ suc n) (draw 4 choices) _ (each_any (draw 4 choices))
    (λ sort rest u. each_bind (λ v. Unit {0}) (λ objects. length objects ≡ suc n) (outside_object number sort rest) _ (each_any (outside_object number sort rest))
    (λ object more v. each_bind (λ objects. length objects ≡ n) (λ objects. length objects ≡ suc n) (outside_objects (suc number) n more) _ (count_outside (suc number) n more)
    (λ objects last e. ap suc e)))

draw_below : (k : ℕ) (choices : List ℕ) → 0 < k → EachDrawn (λ n. n < k) (draw k choices)
draw_below k [] h = tt
draw_below k (x ∷ choices) h = mod-lt x h

few_objects : (memory : Memory) (choices : List ℕ) → length memory ≤ 65535 → EachDrawn (λ objects. length objects ≤ 65535) (with_outside memory choices)
unfolding with_outside
few_objects memory choices h =
    each_bind (λ n. n < 65536 - length memory) (λ objects. length objects ≤ 65535) (draw (65536 - length memory) choices) _ (draw_below (65536 - length memory) choices (omega arith))
    (λ count rest lt. each_bind (λ objects. length objects ≡ count) (λ objects. length objects ≤ 65535) (outside_objects (suc (length memory)) count rest) _ (count_outside (suc (length memory)) count rest)
    (λ objects last e. omega (arith, length-append memory objects, e, lt)))

few_drawn : (d : Drawn Memory) (m : Memory) (rest : List ℕ) (es : List Event) → d ≡ Drew m rest es → EachDrawn (λ objects. length objects ≤ 65535) d → length m ≤ 65535
few_drawn d m rest es e h = subst (λ x. EachDrawn (λ objects. length objects ≤ 65535) x) e h

length-sizes : (xs : List (List ℕ)) → length {A = ℕ} (map {A = List ℕ} {B = ℕ} (λ name. 4) xs) ≡ length xs
length-sizes [] = refl
length-sizes (x ∷ xs) = ap suc (length-sizes xs)

-- there are few objects at entry
pub few_at_entry : (p : Program) (choices rest : List ℕ) (m : Memory) (es : List Event) → length p.statics ≤ 65534 → entry_memory p choices ≡ Drew m rest es → length m ≤ 65535
few_at_entry p choices rest m es h e =
    few_drawn (entry_memory p choices) m rest es e
    (each_bind (λ objects. length objects ≡ length (static_sizes p)) (λ objects. length objects ≤ 65535) (static_objects (static_sizes p) choices) (λ statics. with_outside (function_object ∷ statics)) (count_statics (static_sizes p) choices)
    (λ statics more l. few_objects (function_object ∷ statics) more (omega (arith, l, length-sizes p.statics, h))))

-- Parts -----------------------------------------------------------------------------------------------------------

pub same_drawn : {A : Type 0} (a b : A) (choices : List ℕ) → b ≡ a → give a choices ≡ give b choices
same_drawn a b choices e = ap (λ v. Drew v choices []) (sym e)

given : {A : Type 0} (d : Drawn A) → d ≡ bind d give
given (Drew v r es) = ap (λ l. Drew v r l) (sym (append-nil es))
given (Dry es) = refl

pub bind_give : {A : Type 0} (d : Draws A) (choices : List ℕ) → d choices ≡ (d >>= give) choices
bind_give d choices = given (d choices)

pub few_from_entry : (p : Program) (m : Memory) (s s' : Supply) (h h' : Hearing) → length p.statics ≤ 65534 → HasDrawn (entry_memory p) m s s' h h' → length m ≤ 65535
few_from_entry p m s s' h h' few d = few_at_entry p (d.numbers ++ []) [] m d.events few (d.drew [])
