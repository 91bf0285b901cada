-- One more tree of a list, with what it declares in force.
use Rattle.std.specs.Prelude.{◌≡◌, ℕ, max, Bool, true, false, ◌||◌, List, [], ◌∷◌, ◌++◌, Result, Ok, Err}
use Rattle.std.specs.declared.alloc.AllocError.{AllocError}
use Rattle.dc_syntax.specs.Tokens.{Token}
use Rattle.dc_syntax.specs.Names.{Names}
use Rattle.dc_syntax.specs.Trees.{Tree, declared, is_type_spec, is_body}
use Rattle.dc_syntax.specs.Reading.{Out, Nothing}
use Rattle.dc_syntax.specs.View.{raw_view}
use Rattle.dc_read_expr.specs.declared.read.Read.{Read}
use Rattle.dc_read_expr.specs.declared.lists.ReadItems.{ReadItems}
use Rattle.dc_read_expr.specs.declared.types.ReadSpecs.{ReadSpecs}
use Rattle.dc_read_expr.specs.View.{IsReading}

pub record IsPushed (r : Read) (old new : ReadItems) (env env' : Names) : Type 0 where
  pub items : new.items ≡ old.items ++ r.tree ∷ []
  pub height : new.height ≡ max old.height r.height
  pub at : new.at ≡ r.at
  pub scope : env' ≡ declared (raw_view r.tree) env

pub record IsTaken (tokens : List Token) (from limit : ℕ) (old new : ReadItems) (env env' : Names) (out : Out Tree) : Type 0 where
  pub read : Read
  pub is : IsReading tokens from limit read out
  pub pushed : IsPushed read old new env env'

-- but for want of memory, one more that the definition reads, or none
abbrev pub Taking : List Token → ℕ → ℕ → ReadItems → ReadItems → Names → Names → Result Bool AllocError → Out Tree → Type 0
Taking tokens from limit old new env env' (Ok true) out = IsTaken tokens from limit old new env env' out
Taking tokens from limit old new env env' (Ok false) out = out ≡ Nothing
Taking tokens from limit old new env env' (Err e) out = Unit {0}

pub record IsPushedSpec (r : Read) (old new : ReadSpecs) (env env' : Names) : Type 0 where
  pub specs : new.specs ≡ old.specs ++ r.tree ∷ []
  pub height : new.height ≡ max old.height r.height
  pub at : new.at ≡ r.at
  pub scope : env' ≡ declared (raw_view r.tree) env
  pub typed : new.has_type ≡ (old.has_type || is_type_spec (raw_view r.tree))
  pub bodied : new.has_body ≡ (old.has_body || is_body (raw_view r.tree))

pub record IsTakenSpec (tokens : List Token) (limit : ℕ) (old new : ReadSpecs) (env env' : Names) (out : Out Tree) : Type 0 where
  pub read : Read
  pub is : IsReading tokens old.at limit read out
  pub pushed : IsPushedSpec read old new env env'

abbrev pub TakingSpec : List Token → ℕ → ReadSpecs → ReadSpecs → Names → Names → Result Bool AllocError → Out Tree → Type 0
TakingSpec tokens limit old new env env' (Ok true) out = IsTakenSpec tokens limit old new env env' out
TakingSpec tokens limit old new env env' (Ok false) out = out ≡ Nothing
TakingSpec tokens limit old new env env' (Err e) out = Unit {0}
