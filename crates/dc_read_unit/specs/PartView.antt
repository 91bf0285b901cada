-- What a reader of parts answers, and the definition's reading beside it.
use Rattle.std.specs.Prelude.{◌≡◌, ℕ, ◌<◌, ◌≤◌, List, map, length, drop, Option, Some, None, Result, Ok, Err}
use Rattle.std.specs.declared.alloc.AllocError.{AllocError}
use Rattle.dc_syntax.specs.Tokens.{Token}
use Rattle.dc_syntax.specs.Parts.{Part, height_of}
use Rattle.dc_syntax.specs.Reading.{Out, Nothing, Found}
use Rattle.dc_syntax.specs.UnitView.{part_view}
use Rattle.dc_read_unit.specs.declared.read.ReadPart.{ReadPart}
use Rattle.dc_read_unit.specs.declared.read.ReadParts.{ReadParts}

-- what was read, with its height and the place behind it
pub record IsPart (tokens : List Token) (from limit : ℕ) (r : ReadPart) (out : Out Part) : Type 0 where
  pub found : out ≡ Found (part_view r.part) (drop r.at tokens)
  pub high : r.height ≡ height_of (part_view r.part)
  pub short : r.height ≤ limit
  pub after : from < r.at
  pub within : r.at ≤ length tokens

-- but for want of memory, what the definition reads
abbrev pub Parting : List Token → ℕ → ℕ → Result (Option ReadPart) AllocError → Out Part → Type 0
Parting tokens from limit (Ok (Some r)) out = IsPart tokens from limit r out
Parting tokens from limit (Ok None) out = out ≡ Nothing
Parting tokens from limit (Err e) out = Unit {0}

-- what was read of a list, as one part; it may have no token
pub record IsParts (tokens : List Token) (from limit : ℕ) (view : List Part → Part) (r : ReadParts) (out : Out Part) : Type 0 where
  pub found : out ≡ Found (view (map part_view r.parts)) (drop r.at tokens)
  pub high : r.height ≡ height_of (view (map part_view r.parts))
  pub short : r.height ≤ limit
  pub after : from ≤ r.at
  pub within : r.at ≤ length tokens

abbrev pub PartsListing : List Token → ℕ → ℕ → (List Part → Part) → Result (Option ReadParts) AllocError → Out Part → Type 0
PartsListing tokens from limit view (Ok (Some r)) out = IsParts tokens from limit view r out
PartsListing tokens from limit view (Ok None) out = out ≡ Nothing
PartsListing tokens from limit view (Err e) out = Unit {0}
