-- Reading of a function's clauses. The names are those declared so far, and n of them are variables.
use Rattle.std.specs.Prelude.{ℕ, zero, suc, Bool, false, nat_lt, List, [], ◌∷◌, ◌++◌, Option, None, Some, if◌then◌else◌, codes}
use Rattle.std.specs.List.{position}
use Rattle.dc_core.specs.Program.{Expr, Variable, Contract}
use Rattle.dc_text.specs.Words.{same}
use Rattle.dc_form.specs.Read.Cursor.{front, tail}
use Rattle.dc_form.specs.Read.Expressions.{read_test}
use Rattle.dc_form.specs.Read.Reading.{Reading, got, then_read, behind}

-- a comparison in parentheses
abbrev pub read_condition : List (List ℕ) → ℕ → Bool → List (List ℕ) → Reading Expr
read_condition names n valued tokens =
    behind (codes "(") tokens (λ tokens. then_read (read_test names n valued tokens) (λ e tokens. behind (codes ")") tokens (λ tokens. got e tokens)))

abbrev pub variable_at : ℕ → Option ℕ → Option Expr
variable_at n None = None
variable_at n (Some k) = if nat_lt k n then Some (Variable k) else None

-- a variable by its name
abbrev pub target_of : List (List ℕ) → ℕ → List ℕ → Option Expr
target_of names n word = variable_at n (position (same word) names)

abbrev pub with_target : {A : Type 0} → Option Expr → (Expr → Reading A) → Reading A
with_target None f = None
with_target (Some e) f = f e

-- variables with a `,` between them, behind these
abbrev pub read_targets : List (List ℕ) → ℕ → List Expr → List (List ℕ) → Reading (List Expr)
read_targets names n es [] = None
read_targets names n es (word ∷ []) = with_target (target_of names n word) (λ e. got (es ++ e ∷ []) [])
read_targets names n es (word ∷ mark ∷ tokens) =
    with_target (target_of names n word) (λ e. if same mark (codes ",") then read_targets names n (es ++ e ∷ []) tokens else got (es ++ e ∷ []) (mark ∷ tokens))

abbrev pub with_requires : Contract → Expr → Contract
with_requires c e = record c { requires_ = c.requires_ ++ e ∷ [] }

abbrev pub with_ensures : Contract → Expr → Contract
with_ensures c e = record c { ensures_ = c.ensures_ ++ e ∷ [] }

abbrev pub with_assigns : Contract → List Expr → Contract
with_assigns c es = record c { assigns = es }

abbrev pub read_requires : List (List ℕ) → ℕ → Contract → List (List ℕ) → Reading Contract
read_requires names n c tokens = then_read (read_condition names n false tokens) (λ e tokens. got (with_requires c e) tokens)

abbrev pub read_ensures : List (List ℕ) → ℕ → Bool → Contract → List (List ℕ) → Reading Contract
read_ensures names n gives_int c tokens = then_read (read_condition names n gives_int tokens) (λ e tokens. got (with_ensures c e) tokens)

abbrev pub read_assigns : List (List ℕ) → ℕ → Contract → List (List ℕ) → Reading Contract
read_assigns names n c tokens =
    behind (codes "(") tokens (λ tokens. then_read (read_targets names n c.assigns tokens) (λ es tokens. behind (codes ")") tokens (λ tokens. got (with_assigns c es) tokens)))

abbrev pub read_clause : List (List ℕ) → ℕ → Bool → Contract → List (List ℕ) → Reading Contract
read_clause names n gives_int c tokens =
    if same (front tokens) (codes "__CPROVER_requires") then read_requires names n c (tail tokens)
    else if same (front tokens) (codes "__CPROVER_ensures") then read_ensures names n gives_int c (tail tokens)
    else if same (front tokens) (codes "__CPROVER_assigns") then read_assigns names n c (tail tokens) else None

-- at most so many clauses, and the `{` behind them
abbrev pub read_clauses : ℕ → List (List ℕ) → ℕ → Bool → Contract → List (List ℕ) → Reading Contract
read_clauses zero names n gives_int c tokens = None
read_clauses (suc most) names n gives_int c tokens =
    if same (front tokens) (codes "{") then got c (tail tokens)
    else then_read (read_clause names n gives_int c tokens) (λ c tokens. read_clauses most names n gives_int c tokens)
