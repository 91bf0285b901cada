-- Counts of events.
use Rattle.std.specs.Prelude.{ℕ, ◌+◌, ◌-◌, ◌^◌, min, max, List, [], ◌∷◌}
use Rattle.dc_text.specs.declared.event.Event.{Event}
use Rattle.dc_text.specs.declared.event.Event.TheVariants.{Draw, Create, Kill, Write, Free, Check, Call, Return}
use Rattle.dc_text.specs.declared.event.Counts.{Counts}

-- a count after a number of events: at 2^128 - 1 it stays
abbrev pub raised : ℕ → ℕ → ℕ
raised count by = max count (min (count + by) (2 ^ 128 - 1))

-- the counts of no events
abbrev pub no_counts : Counts
no_counts = record { draws = 0; creates = 0; kills = 0; writes = 0; frees = 0; checks = 0; calls = 0; returns = 0 }

-- the counts after one event, whose own count rises
abbrev pub counted : Event → Counts → Counts
counted (Draw number) counts = record counts { draws = raised counts.draws 1 }
counted (Create object) counts = record counts { creates = raised counts.creates 1 }
counted (Kill object) counts = record counts { kills = raised counts.kills 1 }
counted (Write object from len) counts = record counts { writes = raised counts.writes 1 }
counted (Free object) counts = record counts { frees = raised counts.frees 1 }
counted (Check held) counts = record counts { checks = raised counts.checks 1 }
counted (Call function) counts = record counts { calls = raised counts.calls 1 }
counted Return counts = record counts { returns = raised counts.returns 1 }

-- the counts after a list of events
abbrev pub all_counted : List Event → Counts → Counts
all_counted [] counts = counts
all_counted (event ∷ events) counts = all_counted events (counted event counts)

-- counts that rose each by one of these
abbrev pub raised_by : Counts → Counts → Counts
raised_by counts by = record {
  draws = raised counts.draws by.draws;
  creates = raised counts.creates by.creates;
  kills = raised counts.kills by.kills;
  writes = raised counts.writes by.writes;
  frees = raised counts.frees by.frees;
  checks = raised counts.checks by.checks;
  calls = raised counts.calls by.calls;
  returns = raised counts.returns by.returns;
}
