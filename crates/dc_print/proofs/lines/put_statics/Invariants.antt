use Rattle.std.proofs.Common.{◌≡◌, ◌++◌, map, take}
use Rattle.dc_goto.specs.View.{static_view}
use Rattle.dc_goto.specs.Text.{static_line, line_bytes}
use Rattle.dc_print.proofs.lines.put_statics.Given as goal

abbrev pub invariant-loop-var : goal.invariant-loop-var
invariant-loop-var l = l.lines ≡ l.fn.lines ++ map line_bytes (map static_line (map static_view (take l.var-index l.vars)))
