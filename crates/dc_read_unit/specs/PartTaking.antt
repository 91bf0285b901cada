-- One more part of a list.
use Rattle.std.specs.Prelude.{◌≡◌, ℕ, max, Bool, true, false, List, [], ◌∷◌, ◌++◌, Result, Ok, Err}
use Rattle.std.specs.declared.alloc.AllocError.{AllocError}
use Rattle.dc_syntax.specs.Tokens.{Token}
use Rattle.dc_syntax.specs.Names.{Names}
use Rattle.dc_syntax.specs.Parts.{Part}
use Rattle.dc_syntax.specs.Reading.{Out, Nothing}
use Rattle.dc_syntax.specs.UnitView.{part_view}
use Rattle.dc_read_unit.specs.declared.read.ReadPart.{ReadPart}
use Rattle.dc_read_unit.specs.declared.read.ReadParts.{ReadParts}
use Rattle.dc_read_unit.specs.PartView.{IsPart}

pub record IsPushedPart (r : ReadPart) (old new : ReadParts) : Type 0 where
  pub parts : new.parts ≡ old.parts ++ r.part ∷ []
  pub height : new.height ≡ max old.height r.height
  pub at : new.at ≡ r.at

-- one more, where the names in force stay as they are
pub record IsTakenPart (tokens : List Token) (from limit : ℕ) (old new : ReadParts) (out : Out Part) : Type 0 where
  pub read : ReadPart
  pub is : IsPart tokens from limit read out
  pub pushed : IsPushedPart read old new

abbrev pub TakingPart : List Token → ℕ → ℕ → ReadParts → ReadParts → Result Bool AllocError → Out Part → Type 0
TakingPart tokens from limit old new (Ok true) out = IsTakenPart tokens from limit old new out
TakingPart tokens from limit old new (Ok false) out = out ≡ Nothing
TakingPart tokens from limit old new (Err e) out = Unit {0}

-- one more, with what it brings into force
pub record IsDeclaredPart (tokens : List Token) (from limit : ℕ) (old new : ReadParts) (env' : Names) (behind : Part → Names) (out : Out Part) : Type 0 where
  pub read : ReadPart
  pub is : IsPart tokens from limit read out
  pub pushed : IsPushedPart read old new
  pub scope : env' ≡ behind (part_view read.part)

abbrev pub DeclaringPart : List Token → ℕ → ℕ → ReadParts → ReadParts → Names → (Part → Names) → Result Bool AllocError → Out Part → Type 0
DeclaringPart tokens from limit old new env' behind (Ok true) out = IsDeclaredPart tokens from limit old new env' behind out
DeclaringPart tokens from limit old new env' behind (Ok false) out = out ≡ Nothing
DeclaringPart tokens from limit old new env' behind (Err e) out = Unit {0}
