-- A mark at a place, tested against another.
use Rattle.std.proofs.Common.{◌≡◌, ℕ, Bool, true, false, List, drop, refl, sym, ap, ◌∙◌, rules}
use denote.Enum.Bare.{sameb, same_true, same_false}
use Rattle.dc_syntax.specs.contracts.mark.Mark.{the_type}
use Rattle.dc_syntax.specs.declared.mark.Mark.{Mark}
use Rattle.dc_syntax.specs.Tokens.{Token, Marked, mark_number, is_word}
use Rattle.dc_syntax.specs.Reading.{begins}
use Rattle.dc_syntax.proofs.Words.{eq_same, word_is}
use Rattle.dc_read_expr.specs.View.{IsNext}

mark_tested : (mark found : Mark) (b : Bool) → b ≡ sameb the_type found mark → b ≡ is_word (Marked mark) (Marked found)
mark_tested mark found true e =
    let same : found ≡ mark = same_true the_type (search rules) found mark (sym e) in
    sym (ap (λ m. is_word (Marked mark) (Marked m)) same ∙ eq_same (mark_number mark))
mark_tested mark found false e = by (is_word (Marked mark) (Marked found)) refl
  where
    by : (b : Bool) → is_word (Marked mark) (Marked found) ≡ b → false ≡ b
    by true is = let same : found ≡ mark = cc (word_is (Marked mark) (Marked found) is) in absurd (same_false the_type found mark (sym e) same)
    by false is = refl

pub mark_begins : (tokens : List Token) (at : ℕ) (mark found : Mark) (b : Bool) → IsNext tokens at (Marked found) → b ≡ sameb the_type found mark → b ≡ begins (Marked mark) (drop at tokens)
mark_begins tokens at mark found b n e = mark_tested mark found b e ∙ sym (ap (begins (Marked mark)) n.whole ∙ ap (is_word (Marked mark)) n.word)
