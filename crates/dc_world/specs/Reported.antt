-- What a report says of a run, and what is left of one that was refused memory.
use Rattle.std.specs.Prelude.{◌≡◌, ℕ, List, [], ◌++◌, length, map, Option, IfSome}
use Rattle.dc_core.specs.Event as plain
use Rattle.dc_core.specs.Event.{Event}
use Rattle.dc_core.specs.Outcome.{Outcome}
use Rattle.dc_text.specs.Counted.{all_counted, no_counts, raised}
use Rattle.dc_choice.specs.Chosen.{Used}
use Rattle.dc_choice.specs.Heard.{Record, hears_all}
use Rattle.dc_world.specs.Report.{end_view}
use Rattle.dc_world.specs.Told.{spoken}
use Rattle.dc_world.specs.declared.report.RunReport.{RunReport}

-- how often there was no number, at an end
abbrev pub dry_at : plain.End → ℕ
dry_at (plain.Returned result) = 0
dry_at plain.Blocked = 0
dry_at (plain.Undefined function) = 0
dry_at (plain.NoBody function) = 0
dry_at plain.ObjectLimit = 0
dry_at plain.DepthLimit = 0
dry_at plain.ChoicesEnded = 1
dry_at plain.Cut = 0

-- some numbers were taken, and the first events of the run on them were told, whatever numbers follow
pub record IsCutShort (run : List ℕ → Outcome) (left left' : Option (List ℕ)) (records records' : List Record) : Type 0 where
  pub numbers : List ℕ
  pub events : List Event
  pub front : (rest : List ℕ) → (more : List Event) × ((run (numbers ++ rest)).events ≡ events ++ more)
  pub taken : Used left left' numbers
  pub heard : records' ≡ map (hears_all (map spoken events)) records

-- The report is the run on the numbers that it took, and where the numbers to come are told, on all of them. They came
-- from the chooser, which has none left where they came to their end. A watch heard the run's events.
pub record IsReport (run : List ℕ → Outcome) (r : RunReport) (left left' : Option (List ℕ)) (g g' d d' : ℕ) (records records' : List Record) : Type 0 where
  pub failed : r.failed ≡ (run r.used).names
  pub ends : end_view r.end ≡ (run r.used).end
  pub taken : length r.used ≡ (run r.used).used
  pub counts : r.counts ≡ all_counted (map spoken (run r.used).events) no_counts
  pub whole : IfSome left (λ list. run list ≡ run r.used)
  pub used : Used left left' r.used
  pub given : g' ≡ raised g (length r.used)
  pub dry : d' ≡ raised d (dry_at (end_view r.end))
  pub ended : end_view r.end ≡ plain.ChoicesEnded → IfSome left' (λ rest. rest ≡ [])
  pub heard : records' ≡ map (hears_all (map spoken (run r.used).events)) records
