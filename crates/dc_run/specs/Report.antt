-- What a whole run did.
use Rattle.std.specs.Prelude.{◌≡◌, ℕ, List, [], ◌++◌, length, flat_map, Result, Ok, Err}
use Rattle.dc_core.specs.Event as plain
use Rattle.dc_core.specs.Event.{Event}
use Rattle.dc_memory.specs.Objects.{Memory}
use Rattle.dc_core.specs.Outcome.{Outcome}
use Rattle.dc_core.specs.Run.{Note, name_of, event_of}
use Rattle.dc_world.specs.Told.{Supply, IsTaken, Hearing, told}
use Rattle.dc_world.specs.Report.{end_view}
use Rattle.dc_world.specs.declared.report.End.{End}
use Rattle.dc_world.specs.Reported.{dry_at}

-- what is seen of a run that took these numbers and noted this
abbrev pub seen_of : List ℕ → List Note → plain.End → Memory → Outcome
seen_of numbers notes end memory =
    record { names = flat_map name_of notes; events = flat_map event_of notes; end = end; used = length numbers; memory = memory }

-- with the numbers that were taken the run is seen so, whatever follows them; nothing does where the choices ended
pub record HasRun (run : List ℕ → Outcome) (end : plain.End) (s s' : Supply) (h h' : Hearing) : Type 0 where
  pub numbers : List ℕ
  pub notes : List Note
  pub memory : Memory
  pub sees : (rest : List ℕ) → (end ≡ plain.ChoicesEnded → rest ≡ []) → run (numbers ++ rest) ≡ seen_of numbers notes end memory
  pub taken : IsTaken numbers (dry_at end) s s'
  pub heard : h' ≡ told notes h

-- the first events were told, whatever follows the numbers that were taken
pub record WasRefused (run : List ℕ → Outcome) (s s' : Supply) (h h' : Hearing) : Type 0 where
  pub numbers : List ℕ
  pub notes : List Note
  pub front : (rest : List ℕ) → (more : List Event) × ((run (numbers ++ rest)).events ≡ flat_map event_of notes ++ more)
  pub taken : IsTaken numbers 0 s s'
  pub heard : h' ≡ told notes h

abbrev pub IsRun : {E : Type 0} → (List ℕ → Outcome) → Result End E → Supply → Supply → Hearing → Hearing → Type 0
IsRun run (Ok end) s s' h h' = HasRun run (end_view end) s s' h h'
IsRun run (Err e) s s' h h' = WasRefused run s s' h h'
