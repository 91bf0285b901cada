-- What a part of a run did: it went on, it ended, or memory was wanting.
use Rattle.std.specs.Prelude.{◌≡◌, ℕ, Bool, true, false, List, [], ◌++◌, Option, Some, None, Result, Ok, Err}
use Rattle.dc_core.specs.Event as plain
use Rattle.dc_core.specs.Run.{Note, seen}
use Rattle.dc_core.specs.World.{World}
use Rattle.dc_goto.specs.Program.{Instr, Goto, IfNot, Call, CallThrough, Return}
use Rattle.dc_goto.specs.Acts as acts
use Rattle.dc_goto.specs.Machine as machine
use Rattle.dc_world.specs.Told.{Supply, IsTaken, Hearing, told}
use Rattle.dc_world.specs.Report.{end_view}
use Rattle.dc_world.specs.Reported.{dry_at}
use Rattle.dc_world.specs.declared.report.End.{End}

-- how a definition says that something goes on in a state, or has ended, and what was noted
pub record Form (X Y : Type 0) : Type 0 where
  pub goes : List Note → X → Y
  pub ends : List Note → plain.End → World → Y
  pub notes : Y → List Note

-- it goes on, whatever follows the numbers that were taken
pub record GoesOn {X Y : Type 0} (form : Form X Y) (run : List ℕ → Y) (state : List ℕ → X) (s s' : Supply) (h h' : Hearing) : Type 0 where
  pub numbers : List ℕ
  pub notes : List Note
  pub goes : (rest : List ℕ) → run (numbers ++ rest) ≡ form.goes notes (state rest)
  pub taken : IsTaken numbers 0 s s'
  pub heard : h' ≡ told notes h

-- with the numbers that were taken it ends so
pub record HasEnded {X Y : Type 0} (form : Form X Y) (run : List ℕ → Y) (end : plain.End) (s s' : Supply) (h h' : Hearing) : Type 0 where
  pub numbers : List ℕ
  pub notes : List Note
  pub world : World
  pub ends : run numbers ≡ form.ends notes end world
  pub none_left : world.choices ≡ []
  pub taken : IsTaken numbers (dry_at end) s s'
  pub heard : h' ≡ told notes h

-- the first notes were told, whatever follows the numbers that were taken
pub record IsCutOff {X Y : Type 0} (form : Form X Y) (run : List ℕ → Y) (s s' : Supply) (h h' : Hearing) : Type 0 where
  pub numbers : List ℕ
  pub notes : List Note
  pub front : (rest : List ℕ) → (more : List Note) × (form.notes (run (numbers ++ rest)) ≡ notes ++ more)
  pub taken : IsTaken numbers 0 s s'
  pub heard : h' ≡ told notes h

abbrev pub IsStep : {X Y E : Type 0} → Form X Y → (List ℕ → Y) → (List ℕ → X) → Result (Option End) E → Supply → Supply → Hearing → Hearing → Type 0
IsStep form run state (Ok None) s s' h h' = GoesOn form run state s s' h h'
IsStep form run state (Ok (Some end)) s s' h h' = HasEnded form run (end_view end) s s' h h'
IsStep form run state (Err e) s s' h h' = IsCutOff form run s s' h h'

-- The same of what takes no number -----------------------------------------------------------------------------

pub record GoesAlone {X Y : Type 0} (form : Form X Y) (run : List ℕ → Y) (state : List ℕ → X) (h h' : Hearing) : Type 0 where
  pub notes : List Note
  pub goes : (rest : List ℕ) → run rest ≡ form.goes notes (state rest)
  pub heard : h' ≡ told notes h

pub record EndsAlone {X Y : Type 0} (form : Form X Y) (run : List ℕ → Y) (end : plain.End) (h h' : Hearing) : Type 0 where
  pub notes : List Note
  pub world : World
  pub ends : run [] ≡ form.ends notes end world
  pub none_left : world.choices ≡ []
  pub not_dry : dry_at end ≡ 0
  pub heard : h' ≡ told notes h

abbrev pub IsAlone : {X Y E : Type 0} → Form X Y → (List ℕ → Y) → (List ℕ → X) → Result (Option End) E → Hearing → Hearing → Type 0
IsAlone form run state (Ok None) h h' = GoesAlone form run state h h'
IsAlone form run state (Ok (Some end)) h h' = EndsAlone form run (end_view end) h h'
IsAlone form run state (Err e) h h' = h' ≡ h

-- The forms of the machine's definitions -------------------------------------------------------------------------

abbrev pub notes_then : acts.Then → List Note
notes_then (acts.Next notes s) = notes
notes_then (acts.Jumps place s) = []
notes_then (acts.Ends notes end w) = notes
notes_then (acts.Enters register name values s) = []
notes_then (acts.Leaves value s) = []

abbrev pub acting : Form acts.Now acts.Then
acting = record { goes = acts.Next; ends = acts.Ends; notes = notes_then }

abbrev pub notes_run : machine.Run → List Note
notes_run (machine.Going notes m) = notes
notes_run (machine.Stopped notes end w) = notes

abbrev pub running : Form machine.Machine machine.Run
running = record { goes = machine.Going; ends = machine.Stopped; notes = notes_run }

-- every instruction but a call, a return and a jump goes on to the next
abbrev pub goes_on : Instr → Bool
goes_on (Goto place) = false
goes_on (IfNot test place) = false
goes_on (Call register name arguments) = false
goes_on (CallThrough register pointer result params arguments) = false
goes_on (Return value) = false
goes_on _ = true

-- What a whole run did -------------------------------------------------------------------------------------------

-- with the numbers that were taken the run ends so, or is cut
pub record HasRun (run : List ℕ → machine.Run) (end : plain.End) (s s' : Supply) (h h' : Hearing) : Type 0 where
  pub numbers : List ℕ
  pub notes : List Note
  pub world : World
  pub ends : machine.seen_run numbers (run numbers) ≡ seen numbers notes end world
  pub none_left : world.choices ≡ []
  pub taken : IsTaken numbers (dry_at end) s s'
  pub heard : h' ≡ told notes h

abbrev pub IsRun : {E : Type 0} → (List ℕ → machine.Run) → Result End E → Supply → Supply → Hearing → Hearing → Type 0
IsRun run (Ok end) s s' h h' = HasRun run (end_view end) s s' h h'
IsRun run (Err e) s s' h h' = IsCutOff running run s s' h h'
