use Rattle.dc_goto.proofs.Spelling.{no_formless, no_misshapen}
use Rattle.dc_goto.proofs.laws.text_has_no_fault.Goals as goal

pub returns : goal.returns
returns c = record { formed = no_formless; shaped = no_misshapen }
