-- The word of a token in the source, as the grammar's.
use Rattle.dc_syntax.specs.Tokens as tokens
use Rattle.dc_syntax.specs.declared.token.Word.{Word}
use Rattle.dc_syntax.specs.declared.token.Word.TheVariants.{Named, Literal, Marked, Reserved}

abbrev pub word_view : Word → tokens.Word
word_view (Named n) = tokens.Named n.now
word_view (Literal n) = tokens.Literal n.now
word_view (Marked m) = tokens.Marked m
word_view (Reserved k) = tokens.Reserved k
