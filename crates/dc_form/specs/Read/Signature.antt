-- Reading of what stands in front of a function's clauses.
use Rattle.std.specs.Prelude.{ℕ, Bool, true, false, ◌&&◌, nat_lt, List, [], ◌∷◌, ◌++◌, length, Option, None, Some, if◌then◌else◌, codes}
use Rattle.dc_form.specs.Form.{is_new}
use Rattle.dc_text.specs.Words.{same}
use Rattle.dc_form.specs.Read.Cursor.{front, tail}
use Rattle.dc_form.specs.Read.Reading.{Reading, got, then_read, behind}

-- the variables, and the function that is declared behind them
pub record Head : Type 0 where
  pub statics : List (List ℕ)
  pub gives_int : Bool
  pub name : List ℕ

abbrev pub head : List (List ℕ) → Bool → List ℕ → Head
head statics gives_int name = record { statics = statics; gives_int = gives_int; name = name }

-- the names that a head declares
abbrev pub head_names : Head → List (List ℕ)
head_names h = h.statics ++ h.name ∷ []

-- whether a function gives an int, by the word in front
abbrev pub result_of : List ℕ → Option Bool
result_of word = if same word (codes "void") then Some false else if same word (codes "int") then Some true else None

abbrev pub with_result : {A : Type 0} → Option Bool → (Bool → Reading A) → Reading A
with_result None f = None
with_result (Some gives_int) f = f gives_int

-- behind these variables
abbrev pub read_head : List (List ℕ) → List (List ℕ) → Reading Head
read_head names [] = None
read_head names (word ∷ []) = None
read_head names (word ∷ name ∷ []) =
    with_result (result_of word) (λ gives_int. if is_new names name then got (head names gives_int name) [] else None)
read_head names (word ∷ name ∷ mark ∷ tokens) =
    with_result (result_of word) (λ gives_int.
    if is_new names name then (
    if same mark (codes ";") && gives_int then (if nat_lt (length names) 32766 then read_head (names ++ name ∷ []) tokens else None)
    else got (head names gives_int name) (mark ∷ tokens))
    else None)

-- parameters with a `,` between them, behind these names
abbrev pub read_each : List (List ℕ) → List (List ℕ) → Reading (List (List ℕ))
read_each names [] = None
read_each names (word ∷ []) = None
read_each names (word ∷ name ∷ []) = if same word (codes "int") && is_new names name then got (names ++ name ∷ []) [] else None
read_each names (word ∷ name ∷ mark ∷ tokens) =
    if same word (codes "int") && is_new names name then (
    if same mark (codes ",") then read_each (names ++ name ∷ []) tokens else got (names ++ name ∷ []) (mark ∷ tokens))
    else None

abbrev pub read_params : List (List ℕ) → List (List ℕ) → Reading (List (List ℕ))
read_params names tokens = if same (front tokens) (codes "void") then got names (tail tokens) else read_each names tokens

-- parameters in parentheses
abbrev pub read_list : List (List ℕ) → List (List ℕ) → Reading (List (List ℕ))
read_list names tokens =
    behind (codes "(") tokens (λ tokens. then_read (read_params names tokens) (λ names tokens. behind (codes ")") tokens (λ tokens. got names tokens)))
