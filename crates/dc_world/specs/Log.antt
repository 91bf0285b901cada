-- A watch with the log of a run.
use Rattle.std.specs.Prelude.{ℕ, List}
use Rattle.dc_choice.specs.Heard.{Record}
use Rattle.dc_world.specs.Told.{Hearing}
use Rattle.dc_world.specs.declared.log.Log.{Log}

abbrev pub hearing : List Record → List ℕ → Log → Hearing
hearing records parts log = record { records = records; parts = parts; counts = log.counts; failed = log.failed }
