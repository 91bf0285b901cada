use Rattle.std.proofs.Common.{◌≡◌, ℕ, List, subst}
use Rattle.dc_syntax.specs.Tokens.{Token}
use Rattle.dc_syntax.specs.Parts.{Part}
use Rattle.dc_syntax.specs.Reading.{Found}
use Rattle.dc_syntax.specs.ReadingUnits.{reads_unit}
use Rattle.dc_syntax.proofs.CompleteUnits.{unit_complete}
use Rattle.dc_syntax.proofs.Base.{Gives}
use Rattle.dc_syntax.proofs.SoundUnits.{ReadWhole, unit_sound}
use Rattle.dc_syntax.proofs.laws.units_are_read.Goals as goal

given : (h : ℕ) (ts : List Token) (a : Part) (rest : List Token) → reads_unit h ts ≡ Found a rest → ReadWhole h ts a rest
given h ts a rest e = let g : Gives (ReadWhole h ts) (Found a rest) = subst (Gives (ReadWhole h ts)) e (unit_sound h ts) in g.all

pub returns : goal.returns
returns c = record {
  found = unit_complete;
  spelled = λ h ts a rest e. let w = given h ts a rest e in w.spelled;
  low = λ h ts a rest e. let w = given h ts a rest e in w.height;
}
