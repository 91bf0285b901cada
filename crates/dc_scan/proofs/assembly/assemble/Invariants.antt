use Rattle.std.proofs.Common.{◌≡◌, map}
use Rattle.dc_scan.specs.Assembling.{added_all, none_added}
use Rattle.dc_scan.specs.View.{assembly_view, line_view}
use Rattle.dc_scan.proofs.assembly.assemble.Given as goal

abbrev pub invariant-loop-line : goal.invariant-loop-line
invariant-loop-line l = assembly_view l.assembly ≡ added_all none_added (map line_view l.yielded)
