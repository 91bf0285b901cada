use Rattle.std.proofs.Common.{◌≡◌, map, length}
use Rattle.dc_top_tests.proofs.harness.words_of.Given as goal

abbrev pub invariant-loop-word : goal.invariant-loop-word
invariant-loop-word l = (map (λ word. word.items) l.plain.items ≡ l.names.items) × (length l.names.items ≡ l.word-index)
