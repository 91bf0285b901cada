-- What a watch holds.
use Rattle.std.specs.Prelude.{ℕ, ◌-◌, List, [], ◌∷◌, ◌++◌, length, take, nat_lt, if◌then◌else◌}
use Rattle.dc_text.specs.declared.event.Event.{Event}
use Rattle.dc_text.specs.declared.event.Counts.{Counts}
use Rattle.dc_text.specs.Counted.{counted, no_counts, raised_by}

-- the counts of all events, and the first events, as many as there is room for
pub record Record : Type 0 where
  pub counts : Counts
  pub room : ℕ
  pub heard : List Event

-- a record of nothing
abbrev pub fresh : ℕ → Record
fresh room = record { counts = no_counts; room = room; heard = [] }

-- a list that takes one more event, where it is shorter than its room
abbrev pub kept : ℕ → List Event → Event → List Event
kept room heard event = if nat_lt (length heard) room then heard ++ event ∷ [] else heard

-- a record after one event
abbrev pub hears : Event → Record → Record
hears event held = record { counts = counted event held.counts; room = held.room; heard = kept held.room held.heard event }

-- a record after a list of events, one by one
abbrev pub hears_all : List Event → Record → Record
hears_all [] held = held
hears_all (event ∷ events) held = hears_all events (hears event held)

-- a record after events of these counts: each count rose by theirs, and the first that had room were kept
abbrev pub told : Counts → List Event → Record → Record
told by events held = record {
  counts = raised_by held.counts by;
  room = held.room;
  heard = held.heard ++ take (held.room - length held.heard) events;
}

-- the counts of the first record, or zeros
abbrev pub first_counts : List Record → Counts
first_counts [] = no_counts
first_counts (held ∷ others) = held.counts
