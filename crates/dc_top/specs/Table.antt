-- The table of words, and the files that they name.
use Rattle.std.specs.Prelude.{◌≡◌, ℕ, ◌<◌, ◌^◌, ◌⊎◌, true, List, [], ◌∷◌, codes, Option, None, Some, IfSome}
use Rattle.std.specs.Fmt.{decimal}
use Rattle.std.specs.Option.{option_map}
use Rattle.dc_text.specs.Words.{is_word}
use Rattle.dc_outside.specs.Shelf.{Files, named_file}

-- what is run: the program of a text; or the program of a source, judged by the contract of this function as it runs, or
-- run as it stands
pub data Asked : Type 0 where
  Text : Asked
  Contract : (name : List ℕ) → Asked
  Plain : (name : List ℕ) → Asked

-- what the words ask for: the text of this file's program with this function enforced, or a run of this file on these
-- choices for so many steps
pub data Command : Type 0 where
  Instrument : (file name : List ℕ) → Command
  Replay : (asked : Asked) (file choices : List ℕ) (steps : ℕ) → Command

abbrev pub replay_word : Asked → List ℕ
replay_word Text = codes "replay"
replay_word (Contract name) = codes "replay-source"
replay_word (Plain name) = codes "replay-plain"

abbrev pub options_of : Asked → List (List ℕ)
options_of Text = []
options_of (Contract name) = codes "--enforce" ∷ name ∷ []
options_of (Plain name) = codes "--enforce" ∷ name ∷ []

abbrev pub words_of : Command → List (List ℕ)
words_of (Instrument file name) = codes "instrument" ∷ file ∷ codes "--enforce" ∷ name ∷ []
words_of (Replay asked file choices steps) = replay_word asked ∷ file ∷ choices ∷ decimal steps ∷ options_of asked

-- the function that the words enforce, where they name a source
abbrev pub enforced_of : Asked → Option (List ℕ)
enforced_of Text = None
enforced_of (Contract name) = Some name
enforced_of (Plain name) = Some name

abbrev pub enforced : Command → Option (List ℕ)
enforced (Instrument file name) = Some name
enforced (Replay asked file choices steps) = enforced_of asked

-- a number has 64 bits
abbrev pub HasSteps : Command → Type 0
HasSteps (Instrument file name) = Unit {0}
HasSteps (Replay asked file choices steps) = steps < 2 ^ 64

-- the words are the row of the table that asks for this
pub record IsRow (words : List (List ℕ)) (command : Command) : Type 0 where
  pub words_are : words ≡ words_of command
  pub name : IfSome (enforced command) (λ name. is_word name ≡ true)
  pub steps : HasSteps command

-- the words are a row of the table
pub record HasRow (words : List (List ℕ)) : Type 0 where
  pub command : Command
  pub row : IsRow words command

-- the word of this place names a file
abbrev pub Names : Command → ℕ → Type 0
Names (Instrument file name) word = word ≡ 1
Names (Replay asked file choices steps) word = (word ≡ 1) ⊎ (word ≡ 2)

-- the words are a row of the table, in which the word of this place names a file
pub record NamesInput (words : List (List ℕ)) (word : ℕ) : Type 0 where
  pub row : HasRow words
  pub names : Names row.command word

-- the file that a word names, which may be missing, where the shelf tells its files
abbrev pub file_at : Option Files → List (List ℕ) → ℕ → Option (Option (List ℕ))
file_at files words word = option_map (λ files. named_file files words word) files

-- the files that the words may name
pub record Inputs : Type 0 where
  pub first : Option (Option (List ℕ))
  pub second : Option (Option (List ℕ))

abbrev pub inputs_of : Option Files → List (List ℕ) → Inputs
inputs_of files words = record { first = file_at files words 1; second = file_at files words 2 }

-- the file is there, and this holds of its bytes
abbrev pub OfFile : (List ℕ → Type 0) → Option (List ℕ) → Type 0
OfFile P None = ⊥
OfFile P (Some bytes) = P bytes

-- the same, where the shelf tells its files
abbrev pub OfSource : Option (Option (List ℕ)) → (List ℕ → Type 0) → Type 0
OfSource source P = IfSome source (OfFile P)

-- the most bytes that a source may have
abbrev pub source_limit : ℕ
source_limit = 1048576

-- the most bytes that a goto text may have
abbrev pub text_limit : ℕ
text_limit = 134217728

-- the most bytes that a file of choices may have
abbrev pub choices_limit : ℕ
choices_limit = 67108864

-- the most bytes that the first file may have
abbrev pub limit_of : Asked → ℕ
limit_of Text = text_limit
limit_of (Contract name) = source_limit
limit_of (Plain name) = source_limit
