use Rattle.std.proofs.Common.{◌≡◌, ◌++◌, map, take}
use Rattle.dc_goto.specs.Text.{kind_word, spaced}
use Rattle.dc_print.proofs.words.put_kinds.Given as goal

abbrev pub invariant-loop-kind : goal.invariant-loop-kind
invariant-loop-kind l = l.out.items ≡ l.fn.out.items ++ spaced (map kind_word (take l.kind-index l.kinds))
