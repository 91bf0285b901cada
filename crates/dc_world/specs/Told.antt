-- What a run takes from a chooser, and what it tells a watch and its log.
use Rattle.std.specs.Prelude.{◌≡◌, ℕ, List, [], ◌∷◌, ◌++◌, length, map, Option, IfSome}
use Rattle.dc_core.specs.Event as plain
use Rattle.dc_core.specs.Run.{Note, Did, Failed}
use Rattle.dc_text.specs.declared.event.Event.{Event}
use Rattle.dc_text.specs.declared.event.Event.TheVariants.{Draw, Create, Kill, Write, Free, Check, Call, Return}
use Rattle.dc_text.specs.declared.event.Counts.{Counts}
use Rattle.dc_text.specs.Counted.{counted, raised}
use Rattle.dc_choice.specs.Chosen.{Used}
use Rattle.dc_choice.specs.Heard.{Record, hears}

-- an event of the definitions, as a watch hears it
abbrev pub spoken : plain.Event → Event
spoken (plain.Draw number) = Draw number
spoken (plain.Create object) = Create object
spoken (plain.Kill object) = Kill object
spoken (plain.Write object from len) = Write object from len
spoken (plain.Free object) = Free object
spoken (plain.Check held) = Check held
spoken (plain.Call function) = Call function
spoken plain.Return = Return

-- an event that a watch hears, as the definitions have it
abbrev pub meant : Event → plain.Event
meant (Draw number) = plain.Draw number
meant (Create object) = plain.Create object
meant (Kill object) = plain.Kill object
meant (Write object from len) = plain.Write object from len
meant (Free object) = plain.Free object
meant (Check held) = plain.Check held
meant (Call function) = plain.Call function
meant Return = plain.Return

-- a chooser, and the numbers that were taken from it
pub record Supply : Type 0 where
  pub left : Option (List ℕ)
  pub given : ℕ
  pub dry : ℕ
  pub used : List ℕ

abbrev pub supply : Option (List ℕ) → ℕ → ℕ → List ℕ → Supply
supply left given dry used = record { left = left; given = given; dry = dry; used = used }

-- these numbers were taken, and so many times (once at most) there was none, which comes where none is left
pub record IsTaken (numbers : List ℕ) (none : ℕ) (before after : Supply) : Type 0 where
  pub left : Used before.left after.left numbers
  pub given : after.given ≡ raised before.given (length numbers)
  pub dry : after.dry ≡ raised before.dry none
  pub used : after.used ≡ before.used ++ numbers
  pub ended : none ≡ 1 → IfSome after.left (λ rest. rest ≡ [])

-- a watch's records and parts, and the log's counts and failed names
pub record Hearing : Type 0 where
  pub records : List Record
  pub parts : List ℕ
  pub counts : Counts
  pub failed : List (List ℕ)

abbrev pub happens : plain.Event → Hearing → Hearing
happens event h = record h { records = map (hears (spoken event)) h.records; counts = counted (spoken event) h.counts }

abbrev pub fails : List ℕ → Hearing → Hearing
fails name h = record h { failed = h.failed ++ name ∷ [] }

abbrev pub noted : Note → Hearing → Hearing
noted (Did event) h = happens event h
noted (Failed name) h = fails name h

-- all notes, the first of them first
abbrev pub told : List Note → Hearing → Hearing
told [] h = h
told (note ∷ notes) h = told notes (noted note h)
