use Rattle.std.proofs.Common.{sym, ◌∙◌}
use Rattle.dc_goto.proofs.Spelling.{one_program}
use Rattle.dc_goto.proofs.laws.one_spelling.Goals as goal

pub returns : goal.returns
returns c = record { one_program = λ bytes p q f g s t. one_program p q f g (sym s ∙ t); one_text = λ x y p s t. s ∙ sym t }
