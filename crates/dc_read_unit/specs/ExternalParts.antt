-- What stands behind a function's clauses, and the units that tokens spell.
use Rattle.std.specs.Prelude.{◌≤◌, List}
use Rattle.dc_syntax.specs.Tokens.{Token}
use Rattle.dc_syntax.specs.Names.{Names}
use Rattle.dc_syntax.specs.Trees.{Tree}
use Rattle.dc_syntax.specs.Parts.{Part, Definition, is_block, height_of}
use Rattle.dc_syntax.specs.Units.{SpellsUnit}
use Rattle.dc_syntax.specs.Reading.{Out, next, checked, found}
use Rattle.dc_syntax.specs.ReadingUnits.{PartReads, StatementOf}

-- the block of a function, with its names in force
abbrev pub block_behind : PartReads → Names → List Token → Tree → Tree → Part → List Token → Out Part
block_behind q env all s d c rest = next (q StatementOf env rest) (λ b rest. checked (is_block b) (found all (Definition s d c b) rest))

-- the tokens spell this unit, which is at most 128 high
pub record SpellsLow (tokens : List Token) (unit : Part) : Type 0 where
  pub spelled : SpellsUnit tokens unit
  pub low : height_of unit ≤ 128
