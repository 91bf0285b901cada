use Rattle.std.proofs.Common.{◌≡◌, drop}
use Rattle.dc_typing.specs.TypeNames.{has_const}
use Rattle.dc_typing.proofs.declarators.has_const.Given as goal

abbrev pub invariant-loop-word : goal.invariant-loop-word
invariant-loop-word l = has_const (drop l.word-index l.words) ≡ has_const l.words
