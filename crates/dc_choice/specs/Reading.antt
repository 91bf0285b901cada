-- What bytes are as a list of choices.
use Rattle.std.specs.Prelude.{ℕ, ◌+◌, List, [], ◌∷◌, ◌++◌, Option, Some, None, option_and_then, if◌then◌else◌}
use Rattle.std.specs.Str.{is_utf8}
use Rattle.serde_json.specs.Data.{Data, Items, no_items, item}
use Rattle.serde_json.specs.Find.{as_number, as_u64, as_array}
use Rattle.serde_json.specs.Read.{read}

-- the JSON value that the bytes are, at a nesting of at most 127
abbrev pub reading : List ℕ → Option Data
reading bytes = if is_utf8 bytes then read bytes else None

-- no JSON; no array; an array with this first wrong member; an array of these numbers
pub data Verdict : Type 0 where
  no_json : Verdict
  no_array : Verdict
  wrong : (index : ℕ) → Verdict
  numbers : (list : List ℕ) → Verdict

-- the unsigned number of 64 bits that a value is
abbrev pub number_in : Data → Option ℕ
number_in value = option_and_then as_u64 (as_number value)

-- a number before those of a verdict; a wrong member stays wrong
abbrev pub after : List ℕ → Verdict → Verdict
after before no_json = no_json
after before no_array = no_array
after before (wrong index) = wrong index
after before (numbers list) = numbers (before ++ list)

-- the verdict over a member and what follows it
abbrev pub taken : ℕ → Option ℕ → Verdict → Verdict
taken index None rest = wrong index
taken index (Some number) rest = after (number ∷ []) rest

-- the verdict over members, of which the first has this index
abbrev pub judged_from : ℕ → Items → Verdict
judged_from index no_items = numbers []
judged_from index (item value rest) = taken index (number_in value) (judged_from (index + 1) rest)

abbrev pub judged_array : Option Items → Verdict
judged_array None = no_array
judged_array (Some members) = judged_from 0 members

-- the verdict over a reading
abbrev pub judged : Option Data → Verdict
judged None = no_json
judged (Some value) = judged_array (as_array value)
