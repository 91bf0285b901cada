-- A function value that reads with a budget.
use Rattle.std.specs.Prelude.{ℕ, ◌≤◌, List, length, drop, Option, Result}
use Rattle.std.specs.declared.alloc.Global.{Global}
use Rattle.std.specs.declared.alloc.AllocError.{AllocError}
use denote.Ref.{Bor}
use Rattle.dc_syntax.specs.Tokens.{Token}
use Rattle.dc_syntax.specs.Scopes.{Scope}
use Rattle.dc_syntax.specs.Reading.{reads}
use Rattle.dc_read_expr.specs.declared.read.Read.{Read}
use Rattle.dc_read_expr.specs.declared.read.Kind.{Kind}
use Rattle.dc_read_expr.specs.View.{ReadingOf, kind_view}

pub record Nests (h : ℕ) (pre : Global → Bor (List Token) → Bor Scope → ℕ → Kind → ℕ → Type 0)
    (post : Global → Bor (List Token) → Bor Scope → ℕ → Kind → ℕ → Result (Option Read) AllocError → Type 0) : Type 0 where
  pub callable : (alloc : Global) (tokens : Bor (List Token)) (names : Bor Scope) (kind : Kind) (at : ℕ) → at ≤ length tokens.now → pre alloc tokens names h kind at
  pub answers : (alloc : Global) (tokens : Bor (List Token)) (names : Bor Scope) (kind : Kind) (at : ℕ) (r : Result (Option Read) AllocError) → post alloc tokens names h kind at r
      → ReadingOf kind tokens.now at h r (reads h (kind_view kind) names.now.names (drop at tokens.now))
