-- What a row of the table asks for.
use Rattle.std.specs.Prelude.{◌≡◌, ℕ, List, [], slice_index_or, codes, Option, None, Some}
use Rattle.dc_top.specs.Table.{Asked, Command}
use Rattle.dc_top.specs.Table as plain
use Rattle.dc_top.specs.declared.table.Mode.{Mode}
use Rattle.dc_top.specs.declared.table.Mode.TheVariants.{Contract, Plain}
use Rattle.dc_top.specs.declared.table.Row.{Row}
use Rattle.dc_top.specs.declared.table.Row.TheVariants.{Instrument, ReplayText, ReplaySource}

-- a word by its place
abbrev pub word_at : List (List ℕ) → ℕ → List ℕ
word_at words place = slice_index_or words place []

abbrev pub asked_by : Mode → List ℕ → Asked
asked_by Contract name = plain.Contract name
asked_by Plain name = plain.Plain name

abbrev pub command_at : List (List ℕ) → Row → Command
command_at words (Instrument name) = plain.Instrument (word_at words 1) name.now
command_at words (ReplayText steps) = plain.Replay plain.Text (word_at words 1) (word_at words 2) steps
command_at words (ReplaySource mode steps name) = plain.Replay (asked_by mode name.now) (word_at words 1) (word_at words 2) steps

-- the mode that a word asks for
abbrev pub IsModeOf : List ℕ → Option Mode → Type 0
IsModeOf word None = (word ≡ codes "replay-source" → ⊥) × (word ≡ codes "replay-plain" → ⊥)
IsModeOf word (Some Contract) = word ≡ codes "replay-source"
IsModeOf word (Some Plain) = word ≡ codes "replay-plain"
