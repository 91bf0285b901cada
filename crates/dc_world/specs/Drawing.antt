-- What a function that draws did.
use Rattle.std.specs.Prelude.{◌≡◌, ℕ, suc, List, ◌++◌, length, map, Option, Some, None, Result, Ok, Err}
use Rattle.dc_core.specs.Event.{Event}
use Rattle.dc_core.specs.Run.{Did}
use Rattle.dc_memory.specs.declared.object.Object.{Object}
use Rattle.dc_memory.specs.Objects.{Memory}
use Rattle.dc_core.specs.Choices.{Drawn, Drew, Dry, Draws, ◌>>=◌, give, draw, after}
use Rattle.dc_core.specs.Entry.{drawn_objects}
use Rattle.dc_world.specs.Told.{Supply, IsTaken, Hearing, told}
use Rattle.dc_world.specs.Sorts.{count_of, object_of}
use Rattle.dc_world.specs.declared.sorts.Sorts.{Sorts}

-- the value was drawn: the numbers taken give it, whatever follows them, and their events were told
pub record HasDrawn {A : Type 0} (draws : Draws A) (value : A) (s s' : Supply) (h h' : Hearing) : Type 0 where
  pub numbers : List ℕ
  pub events : List Event
  pub drew : (rest : List ℕ) → draws (numbers ++ rest) ≡ Drew value rest events
  pub taken : IsTaken numbers 0 s s'
  pub heard : h' ≡ told (map Did events) h

-- the choices came to their end: with the numbers taken there is no value, and their events were told
pub record RanDry {A : Type 0} (draws : Draws A) (s s' : Supply) (h h' : Hearing) : Type 0 where
  pub numbers : List ℕ
  pub events : List Event
  pub ended : draws numbers ≡ Dry events
  pub taken : IsTaken numbers 1 s s'
  pub heard : h' ≡ told (map Did events) h

-- what happened as a value was drawn, or the choices ended
abbrev pub happened : {A : Type 0} → Drawn A → List Event
happened (Drew value rest events) = events
happened (Dry events) = events

-- memory was wanting on the way: the first events were told, whatever follows the numbers that were taken
pub record BrokeOff {A : Type 0} (draws : Draws A) (s s' : Supply) (h h' : Hearing) : Type 0 where
  pub numbers : List ℕ
  pub events : List Event
  pub front : (rest : List ℕ) → (more : List Event) × (happened (draws (numbers ++ rest)) ≡ events ++ more)
  pub taken : IsTaken numbers 0 s s'
  pub heard : h' ≡ told (map Did events) h

abbrev pub IsDrawing : {V A E : Type 0} → (V → A) → Draws A → Result (Option V) E → Supply → Supply → Hearing → Hearing → Type 0
IsDrawing view draws (Ok (Some value)) s s' h h' = HasDrawn draws (view value) s s' h h'
IsDrawing view draws (Ok None) s s' h h' = RanDry draws s s' h h'
IsDrawing view draws (Err e) s s' h h' = BrokeOff draws s s' h h'

-- a part of the drawing is done: whatever follows the numbers taken, the rest of it is still to be drawn
pub record IsResumed {A : Type 0} (whole rest_of_it : Draws A) (s s' : Supply) (h h' : Hearing) : Type 0 where
  pub numbers : List ℕ
  pub events : List Event
  pub goes : (rest : List ℕ) → whole (numbers ++ rest) ≡ after events (rest_of_it rest)
  pub taken : IsTaken numbers 0 s s'
  pub heard : h' ≡ told (map Did events) h

-- a list is drawn behind a front
abbrev pub behind : {A : Type 0} → List A → Draws (List A) → Draws (List A)
behind front draws = draws >>= λ more. give (front ++ more)

-- the next object, of this number
abbrev pub next_object : Sorts → ℕ → Draws Object
next_object sorts number = draw (count_of sorts) >>= λ sort. object_of sorts number sort

-- that many objects behind those of a memory
abbrev pub with_objects : Sorts → Memory → ℕ → Draws Memory
with_objects sorts memory n =
    drawn_objects (count_of sorts) (object_of sorts) (suc (length memory)) n >>= λ objects. give (memory ++ objects)
