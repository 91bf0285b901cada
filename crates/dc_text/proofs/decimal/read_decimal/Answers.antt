use Rattle.dc_text.proofs.Decimals.{reads_exactly}
use Rattle.dc_text.proofs.decimal.read_decimal.Goals as goal

pub returns : goal.returns
returns c n = rw c.number_of.ensures (reads_exactly c.args.bytes.now n)
