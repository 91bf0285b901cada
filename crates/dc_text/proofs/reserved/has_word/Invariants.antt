use Rattle.std.proofs.Common.{◌≡◌, map, drop}
use Rattle.std.specs.List.{list_any}
use Rattle.dc_text.specs.Words.{same}
use Rattle.dc_text.proofs.reserved.has_word.Given as goal

abbrev pub invariant-loop-word : goal.invariant-loop-word
invariant-loop-word l = list_any (same l.bytes) (map (λ word. word.now) l.words) ≡ list_any (same l.bytes) (map (λ word. word.now) (drop l.word-index l.words))
