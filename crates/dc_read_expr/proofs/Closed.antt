-- A mark behind what is read.
use Rattle.std.proofs.Common.{◌≡◌, ℕ, ◌+◌, true, List, drop, ap, ◌∙◌, subst}
use Rattle.dc_syntax.specs.declared.mark.Mark.{Mark}
use Rattle.dc_syntax.specs.declared.token.Word as code
use Rattle.dc_syntax.specs.declared.token.Word.TheVariants as code_word
use Rattle.dc_syntax.specs.WordView.{word_view}
use Rattle.dc_syntax.specs.Tokens.{Token, Word, Marked, Place, is_word}
use Rattle.dc_syntax.specs.Trees.{Tree}
use Rattle.dc_syntax.specs.Reading.{Out, Found, next, eat, between, found}
use Rattle.dc_read_expr.specs.View.{IsNext}
use Rattle.dc_read_expr.proofs.Pointers.{eat_at}

-- the mark that a test of the code found
pub next_mark : (tokens : List Token) (at : ℕ) (w : code.Word) (m n : Mark) → IsNext tokens at (word_view w) → w ≡ code_word.Marked m → m ≡ n → IsNext tokens at (Marked n)
next_mark tokens at w m n q e f = subst (λ w. IsNext tokens at (word_view w)) (e ∙ ap code_word.Marked f) q

abbrev pub closed : Word → List Token → (Tree → Place → Tree) → Out Tree → Out Tree
closed w all node o = next o (λ c rest. eat w rest (λ rest. found all (node c) rest))

pub closed_found : (w : Word) (all : List Token) (node : Tree → Place → Tree) (o : Out Tree) (c : Tree) (tokens : List Token) (at : ℕ) → is_word w w ≡ true → o ≡ Found c (drop at tokens) → IsNext tokens at w
    → closed w all node o ≡ Found (node c (between all (drop (at + 1) tokens))) (drop (at + 1) tokens)
closed_found w all node o c tokens at y e n = ap (closed w all node) e ∙ eat_at w tokens at (λ rest. found all (node c) rest) y n
