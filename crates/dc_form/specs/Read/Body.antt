-- Reading of a function's body. The names are those declared, and n of them are variables.
use Rattle.std.specs.Prelude.{ℕ, zero, suc, Bool, true, false, ◌||◌, List, [], ◌∷◌, ◌++◌, Option, None, Some, if◌then◌else◌, codes}
use Rattle.std.specs.List.{position}
use Rattle.dc_core.specs.Program.{Expr, Stmt, Assign, Return}
use Rattle.dc_text.specs.Words.{same}
use Rattle.dc_form.specs.Read.Cursor.{front}
use Rattle.dc_form.specs.Read.Expressions.{place_at, read_sum}
use Rattle.dc_form.specs.Read.Reading.{Reading, got, given, then_read, behind}

abbrev pub place_found : ℕ → Option ℕ → Option Expr
place_found n None = None
place_found n (Some k) = place_at n k

-- a variable or a parameter by its name
abbrev pub place_of : List (List ℕ) → ℕ → List ℕ → Option Expr
place_of names n word = place_found n (position (same word) names)

abbrev pub read_place : List (List ℕ) → ℕ → List (List ℕ) → Reading Expr
read_place names n [] = None
read_place names n (word ∷ tokens) = given (place_of names n word) tokens

-- a sum, and the `;` behind it
abbrev pub read_value : List (List ℕ) → ℕ → List (List ℕ) → Reading Expr
read_value names n tokens = then_read (read_sum names n false tokens) (λ e tokens. behind (codes ";") tokens (λ tokens. got e tokens))

abbrev pub read_assignment : List (List ℕ) → ℕ → ℕ → List (List ℕ) → Reading Stmt
read_assignment names n site tokens =
    then_read (read_place names n tokens) (λ place tokens. behind (codes "=") tokens (λ tokens. then_read (read_value names n tokens) (λ value tokens. got (Assign site place value) tokens)))

-- no assignment begins with this
abbrev pub ends : List ℕ → Bool
ends word = same word (codes "return") || same word (codes "}")

-- at most so many assignments, the first having this site, behind these statements
abbrev pub read_assignments : ℕ → List (List ℕ) → ℕ → ℕ → List Stmt → List (List ℕ) → Reading (List Stmt)
read_assignments zero names n site body tokens = None
read_assignments (suc most) names n site body tokens =
    if ends (front tokens) then got body tokens
    else then_read (read_assignment names n site tokens) (λ s tokens. read_assignments most names n (suc site) (body ++ s ∷ []) tokens)

-- a return, which stands exactly in an int function
abbrev pub read_return : List (List ℕ) → ℕ → Bool → List Stmt → List (List ℕ) → Reading (List Stmt)
read_return names n true body tokens =
    behind (codes "return") tokens (λ tokens. then_read (read_value names n tokens) (λ e tokens. got (body ++ Return e ∷ []) tokens))
read_return names n false body tokens = got body tokens
