use Rattle.std.proofs.Common.{◌≡◌, ◌++◌, ◌-◌, map}
use Rattle.dc_core.specs.View.{term_view}
use Rattle.dc_instrument.specs.Lowering.{argument_terms}
use Rattle.dc_instrument.proofs.start.arguments.Given as goal

abbrev pub invariant-loop-i : goal.invariant-loop-i
invariant-loop-i l = map term_view l.terms ++ argument_terms l.i (l.n - l.i) ≡ argument_terms 0 l.n
