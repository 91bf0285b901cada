use Rattle.std.proofs.Common.{◌≡◌, ◌++◌, drop, map}
use Rattle.dc_core.specs.View.{target_view}
use Rattle.dc_goto.specs.View.{instr_view}
use Rattle.dc_instrument.specs.Lowering.{ranges_code}
use Rattle.dc_instrument.proofs.start.put_ranges.Given as goal

abbrev pub invariant-loop-one : goal.invariant-loop-one
invariant-loop-one l =
    map instr_view l.out ++ ranges_code l.at l.number (map target_view (drop l.one-index l.targets))
    ≡ map instr_view l.fn.out ++ ranges_code l.at 1 (map target_view l.targets)
