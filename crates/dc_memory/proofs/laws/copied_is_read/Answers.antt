use Rattle.dc_memory.proofs.Written.{range_bytes-copied}
use Rattle.dc_memory.proofs.laws.copied_is_read.Goals as goal

pub returns : goal.returns
returns c = range_bytes-copied
