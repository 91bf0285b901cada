-- The token in front of bytes.
use Rattle.std.specs.Prelude.{ℕ, ◌==◌, List, [], ◌∷◌, ◌+◌, take, drop, Option, None, Some, if◌then◌else◌}
use Rattle.dc_form.specs.Form.{is_blank, is_mark, goes_on}
use Rattle.dc_text.specs.Words.{is_word_part}

-- what stands behind the blanks
abbrev pub after_blanks : List ℕ → List ℕ
after_blanks [] = []
after_blanks (b ∷ bytes) = if is_blank b then after_blanks bytes else b ∷ bytes

-- how many bytes of a word stand in front
abbrev pub word_len : List ℕ → ℕ
word_len [] = 0
word_len (b ∷ bytes) = if is_word_part b then 1 + word_len bytes else 0

-- how many bytes the token in front has, or 0
abbrev pub token_len : List ℕ → ℕ
token_len [] = 0
token_len (b ∷ bytes) = if is_word_part b then word_len (b ∷ bytes) else if goes_on b bytes then 2 else if is_mark b then 1 else 0

abbrev pub split_at : ℕ → List ℕ → Option (List ℕ × List ℕ)
split_at n bytes = if n == 0 then None else Some (take n bytes, drop n bytes)

-- the token in front of what isn't blank, and what stands behind it
abbrev pub token_front : List ℕ → Option (List ℕ × List ℕ)
token_front bytes = split_at (token_len bytes) bytes
