-- The report of a run.
use Rattle.std.specs.Prelude.{ℕ, ℤ, List, [], ◌∷◌, ◌++◌, length, map, codes, Bool, true, false, Option, None, Some}
use Rattle.std.specs.Fmt.{decimal, signed_decimal}
use Rattle.dc_core.specs.Event.{End, Returned, Blocked, Undefined, NoBody, ObjectLimit, DepthLimit, ChoicesEnded, Cut}
use Rattle.dc_core.specs.Outcome.{Outcome}
use Rattle.dc_goto.specs.Text.{spaced, line_bytes}
use Rattle.dc_text.specs.declared.event.Counts.{Counts}
use Rattle.dc_text.specs.Counted.{all_counted, no_counts}
use Rattle.dc_world.specs.Told.{spoken}

-- a result behind a space, if there is one
abbrev pub result_words : Option ℤ → List ℕ
result_words None = []
result_words (Some value) = 32 ∷ signed_decimal value

abbrev pub end_words : End → List ℕ
end_words (Returned result) = codes "returned" ++ result_words result
end_words Blocked = codes "blocked"
end_words (Undefined function) = codes "undefined " ++ function
end_words (NoBody function) = codes "nobody " ++ function
end_words ObjectLimit = codes "limit objects"
end_words DepthLimit = codes "limit depth"
end_words ChoicesEnded = codes "choices-ended"
end_words Cut = codes "cut"

abbrev pub end_line : End → List ℕ
end_line end = codes "end " ++ end_words end

abbrev pub used_line : ℕ → List ℕ
used_line used = codes "used " ++ decimal used

abbrev pub numbers_of : Counts → List ℕ
numbers_of counts =
    counts.draws ∷ counts.creates ∷ counts.kills ∷ counts.writes ∷ counts.frees ∷ counts.checks ∷ counts.calls ∷ counts.returns ∷ []

abbrev pub events_line : Counts → List ℕ
events_line counts = codes "events" ++ spaced (map decimal (numbers_of counts))

abbrev pub failed_line : ℕ → List ℕ
failed_line n = codes "failed " ++ decimal n

-- the lines without their newlines: the end, the numbers taken, the events, and the failed names in order
abbrev pub report_lines : End → ℕ → Counts → List (List ℕ) → List (List ℕ)
report_lines end used counts names =
    end_line end ∷ used_line used ∷ events_line counts ∷ failed_line (length names) ∷ names

-- the report of a run, each line with its newline; a count of events stays at 2^128 - 1
abbrev pub report_of : Outcome → List (List ℕ)
report_of run =
    map line_bytes (report_lines run.end run.used (all_counted (map spoken run.events) no_counts) run.names)

-- a name failed
abbrev pub has_failed : List (List ℕ) → Bool
has_failed [] = false
has_failed (name ∷ names) = true
