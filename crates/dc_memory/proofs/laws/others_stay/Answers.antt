use Rattle.dc_memory.proofs.Written.{range_bytes-written_apart, is_inside-written}
use Rattle.dc_memory.proofs.laws.others_stay.Goals as goal

pub returns : goal.returns
returns c = record { bytes = range_bytes-written_apart; ranges = is_inside-written }
