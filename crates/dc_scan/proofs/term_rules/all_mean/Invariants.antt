use Rattle.std.proofs.Common.{◌≡◌, map, drop}
use Rattle.std.specs.List.{list_all}
use Rattle.dc_core.specs.View.{term_view}
use Rattle.dc_goto.specs.Shape.{may_mean}
use Rattle.dc_scan.proofs.term_rules.all_mean.Given as goal

abbrev pub invariant-loop-term : goal.invariant-loop-term
invariant-loop-term l =
    list_all (may_mean l.objects l.regs) (map term_view l.terms) ≡ list_all (may_mean l.objects l.regs) (map term_view (drop l.term-index l.terms))
