use Rattle.std.proofs.Common.{map, drop}
use Rattle.dc_core.specs.View.{term_view}
use Rattle.dc_machine.specs.View.{now_view}
use Rattle.dc_machine.proofs.Asking.{IsAlongside}
use Rattle.dc_machine.proofs.now.Now.all_given.Given as goal

abbrev pub invariant-loop-term : goal.invariant-loop-term
invariant-loop-term l =
    IsAlongside (map term_view l.terms) (map term_view (drop l.term-index l.terms)) l.values.items (now_view l.initial.self) (now_view l.self)
