use Rattle.std.proofs.Common.{◌≡◌, ◌++◌, map, take}
use Rattle.dc_goto.specs.Text.{line_bytes}
use Rattle.dc_top.proofs.report.put_names.Given as goal

abbrev pub invariant-loop-name : goal.invariant-loop-name
invariant-loop-name l = l.lines ≡ l.fn.lines ++ map line_bytes (take l.name-index l.names)
