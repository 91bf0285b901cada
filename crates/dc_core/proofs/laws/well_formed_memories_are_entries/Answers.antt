use Rattle.dc_core.proofs.Entered.{Gives-entry}
use Rattle.dc_core.proofs.laws.well_formed_memories_are_entries.Goals as goal

pub returns : goal.returns
returns c = Gives-entry
