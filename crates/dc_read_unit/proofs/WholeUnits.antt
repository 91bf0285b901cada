-- What is read with a budget of 128 is the unit that the tokens spell. The height is a variable, so that nothing is unfolded.
use Rattle.std.proofs.Common.{◌≡◌, ℕ, List, map, length, drop, Option, Some, None, Result, Ok, sym, ap, ◌∙◌, subst, arith}
use Rattle.std.specs.declared.alloc.AllocError.{AllocError}
use Rattle.dc_syntax.specs.Tokens.{Token}
use Rattle.dc_syntax.specs.Names.{Names, first_names}
use Rattle.dc_syntax.specs.Parts.{Part}
use Rattle.dc_syntax.specs.Reading.{Out, Nothing, Found}
use Rattle.dc_syntax.specs.ReadingUnits.{externals, reads_part, reads_unit}
use Rattle.dc_syntax.specs.UnitView.{part_view, externals_part}
use Rattle.dc_syntax.proofs.Base.{Gives}
use Rattle.dc_syntax.proofs.SoundUnits.{ReadWhole, unit_sound}
use Rattle.dc_syntax.proofs.CompleteUnits.{unit_complete}
use Rattle.dc_read_unit.specs.declared.read.ReadParts.{ReadParts}
use Rattle.dc_read_unit.specs.PartView.{PartsListing}
use Rattle.dc_read_unit.specs.ExternalParts.{SpellsLow}
use Rattle.dc_read_unit.proofs.Answered.{parts_some, parts_none}

abbrev is_found : Out Part → Type 0
is_found Nothing = ⊥
is_found (Found a rest) = Unit {0}

spells : (h : ℕ) (ts : List Token) (a : Part) (rest : List Token) → h ≡ 128 → reads_unit h ts ≡ Found a rest → SpellsLow ts a
spells h ts a rest full e =
    let g : Gives (ReadWhole h ts) (Found a rest) = subst (Gives (ReadWhole h ts)) e (unit_sound h ts) in
    let w = g.all in
    record { spelled = w.spelled; low = omega (arith, w.height, full) }

module _ (h : ℕ) (full : h ≡ 128) (env : Names) (first : env ≡ first_names) (tokens : List Token) (result : Result (Option ReadParts) AllocError)
    (q : PartsListing tokens 0 h externals_part result (externals (reads_part h) env (length tokens) tokens)) where
  by_first : reads_unit h tokens ≡ externals (reads_part h) env (length tokens) tokens
  by_first = ap (λ e. externals (reads_part h) e (length tokens) tokens) (sym first)

  pub unit_read : (list : ReadParts) → result ≡ Ok (Some list) → SpellsLow tokens (externals_part (map part_view list.parts))
  unit_read list e =
      let s = parts_some tokens 0 h externals_part list (externals (reads_part h) env (length tokens) tokens) result q e in
      spells h tokens (externals_part (map part_view list.parts)) (drop list.at tokens) full (by_first ∙ s.found)

  pub no_unit : result ≡ Ok None → (unit : Part) → SpellsLow tokens unit → ⊥
  no_unit e unit s =
      let none = parts_none tokens 0 h externals_part (externals (reads_part h) env (length tokens) tokens) result q e in
      let found = unit_complete h tokens unit s.spelled (omega (arith, s.low, full)) in
      subst is_found (sym found ∙ (by_first ∙ none)) tt
