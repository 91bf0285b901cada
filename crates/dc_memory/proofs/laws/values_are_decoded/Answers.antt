use Rattle.dc_memory.proofs.Decoded.{decoded-encoded}
use Rattle.dc_memory.proofs.laws.values_are_decoded.Goals as goal

pub returns : goal.returns
returns c = decoded-encoded
