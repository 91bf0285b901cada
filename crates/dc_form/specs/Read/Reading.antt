-- Readings: what is read in front of tokens, and the tokens behind it.
use Rattle.std.specs.Prelude.{ℕ, List, Option, None, Some, if◌then◌else◌}
use Rattle.dc_text.specs.Words.{same}
use Rattle.dc_form.specs.Read.Cursor.{front, tail}

abbrev pub Reading : Type 0 → Type 0
Reading A = Option (A × List (List ℕ))

abbrev pub got : {A : Type 0} → A → List (List ℕ) → Reading A
got a tokens = Some (a, tokens)

-- what is read behind another reading
abbrev pub then_read : {A B : Type 0} → Reading A → (A → List (List ℕ) → Reading B) → Reading B
then_read None f = None
then_read (Some x) f = f x.0 x.1

-- what is read behind a word
abbrev pub behind : {A : Type 0} → List ℕ → List (List ℕ) → (List (List ℕ) → Reading A) → Reading A
behind word tokens f = if same (front tokens) word then f (tail tokens) else None

-- what may stand in front of tokens
abbrev pub given : {A : Type 0} → Option A → List (List ℕ) → Reading A
given None tokens = None
given (Some a) tokens = got a tokens
