use Rattle.dc_memory.proofs.Written.{load-store}
use Rattle.dc_memory.proofs.laws.stored_is_loaded.Goals as goal

pub returns : goal.returns
returns c = load-store
