use Rattle.std.proofs.Common.{◌≡◌, ◌++◌, map, take}
use Rattle.dc_core.specs.View.{term_view}
use Rattle.dc_goto.specs.Text.{term_word, spaced}
use Rattle.dc_print.proofs.terms.put_terms.Given as goal

abbrev pub invariant-loop-t : goal.invariant-loop-t
invariant-loop-t l = l.out.items ≡ l.fn.out.items ++ spaced (map term_word (map term_view (take l.t-index l.terms)))
