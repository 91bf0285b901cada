-- The names that are in force in a scope, by its own declarations and what is in force around it (C11 6.2.1).
use Rattle.std.specs.Prelude.{◌≡◌, ℕ, suc, Bool, if◌then◌else◌, List, [], ◌∷◌, Option, Some, None}
use Rattle.dc_text.specs.Words.{same}
use Rattle.dc_syntax.specs.Names.{Entry, Names}
use denote.Ref.{Bor}

-- the names in force in a scope, and how many scopes are around it
pub record Scope : Type 0 where
  pub names : Names
  pub depth : ℕ

-- the names in force behind declarations, which stand in their order
abbrev pub declaring_all : List Entry → Names → Names
declaring_all [] env = env
declaring_all (e ∷ es) env = declaring_all es (e ∷ env)

-- a scope with these declarations
abbrev pub in_scope : List Entry → Option (Bor Scope) → Scope
in_scope es None = record { names = declaring_all es []; depth = 0 }
in_scope es (Some outer) = record { names = declaring_all es outer.now.names; depth = suc outer.now.depth }

abbrev pub else_last : Option Bool → Option Bool → Option Bool
else_last None before = before
else_last (Some t) before = Some t

-- what a name's last declaration says, where there is one
abbrev pub last_of : List Entry → List ℕ → Option Bool
last_of [] n = None
last_of (e ∷ es) n = else_last (last_of es n) (if same e.name n then Some e.is_type else None)

-- found by their names
abbrev pub Knows : (List ℕ → Option Bool) → List Entry → Type 0
Knows found es = (n : List ℕ) → found n ≡ last_of es n
