-- A function value that reads parts of one kind with a budget.
use Rattle.std.specs.Prelude.{ℕ, ◌≤◌, List, length, drop, Option, Result}
use Rattle.std.specs.declared.alloc.Global.{Global}
use Rattle.std.specs.declared.alloc.AllocError.{AllocError}
use denote.Ref.{Bor}
use Rattle.dc_syntax.specs.Tokens.{Token}
use Rattle.dc_syntax.specs.Scopes.{Scope}
use Rattle.dc_syntax.specs.ReadingUnits.{PartKind, reads_part}
use Rattle.dc_read_unit.specs.declared.read.ReadPart.{ReadPart}
use Rattle.dc_read_unit.specs.PartView.{Parting}

pub record PartNests (k : PartKind) (h : ℕ) (pre : Global → Bor (List Token) → Bor Scope → ℕ → ℕ → Type 0) (post : Global → Bor (List Token) → Bor Scope → ℕ → ℕ → Result (Option ReadPart) AllocError → Type 0) : Type 0 where
  pub callable : (alloc : Global) (tokens : Bor (List Token)) (names : Bor Scope) (at : ℕ) → at ≤ length tokens.now → pre alloc tokens names h at
  pub answers : (alloc : Global) (tokens : Bor (List Token)) (names : Bor Scope) (at : ℕ) (r : Result (Option ReadPart) AllocError) → post alloc tokens names h at r
      → Parting tokens.now at h r (reads_part h k names.now.names (drop at tokens.now))
