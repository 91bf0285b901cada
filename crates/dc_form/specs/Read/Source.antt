-- Reading of a source.
use Rattle.std.specs.Prelude.{ℕ, suc, ◌-◌, Bool, List, [], ◌∷◌, length, Option, None, Some, codes}
use Rattle.dc_core.specs.Program.{Stmt, Contract, Program}
use Rattle.dc_form.specs.Read.Body.{read_assignments, read_return}
use Rattle.dc_form.specs.Read.Clauses.{read_clauses}
use Rattle.dc_form.specs.Read.Reading.{Reading, got, then_read, behind}
use Rattle.dc_form.specs.Read.Signature.{Head, head_names, read_head, read_list}

abbrev pub no_clauses : Contract
no_clauses = record { requires_ = []; ensures_ = []; assigns = [] }

-- the clauses, and the `{` behind them
abbrev pub read_contract : List (List ℕ) → ℕ → Bool → List (List ℕ) → Reading Contract
read_contract names n gives_int tokens = read_clauses (suc (length tokens)) names n gives_int no_clauses tokens

-- the body's statements, and the `}` behind them
abbrev pub read_body : List (List ℕ) → ℕ → Bool → List (List ℕ) → Reading (List Stmt)
read_body names n gives_int tokens =
    then_read (read_assignments (suc (length tokens)) names n 1 [] tokens) (λ body tokens.
    then_read (read_return names n gives_int body tokens) (λ body tokens. behind (codes "}") tokens (λ tokens. got body tokens)))

-- n of the names are variables
abbrev pub program_with : Head → ℕ → List (List ℕ) → Contract → List Stmt → Program
program_with h n names contract body =
    record {
      statics = h.statics;
      function = record { name = h.name; gives_int = h.gives_int; params = length names - n - 1; contract = contract; body = body };
    }

-- a function's clauses and body, behind its parameters, where n of the names are variables
abbrev pub read_function : Head → ℕ → List (List ℕ) → List (List ℕ) → Reading Program
read_function h n names tokens =
    then_read (read_contract names n h.gives_int tokens) (λ contract tokens.
    then_read (read_body names n h.gives_int tokens) (λ body tokens. got (program_with h n names contract body) tokens))

abbrev pub read_rest : Head → List (List ℕ) → List (List ℕ) → Reading Program
read_rest h names tokens = read_function h (length h.statics) names tokens

abbrev pub read_program : List (List ℕ) → Reading Program
read_program tokens =
    then_read (read_head [] tokens) (λ h tokens. then_read (read_list (head_names h) tokens) (λ names tokens. read_rest h names tokens))

-- nothing stands behind it
abbrev pub alone : Reading Program → Option Program
alone None = None
alone (Some (p, [])) = Some p
alone (Some (p, token ∷ tokens)) = None

abbrev pub read_source : List (List ℕ) → Option Program
read_source tokens = alone (read_program tokens)
