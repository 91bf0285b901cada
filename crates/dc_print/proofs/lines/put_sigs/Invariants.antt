use Rattle.std.proofs.Common.{◌≡◌, ◌++◌, map, take}
use Rattle.dc_goto.specs.View.{sig_view}
use Rattle.dc_goto.specs.Text.{sig_line, line_bytes}
use Rattle.dc_print.proofs.lines.put_sigs.Given as goal

abbrev pub invariant-loop-sig : goal.invariant-loop-sig
invariant-loop-sig l = l.lines ≡ l.fn.lines ++ map line_bytes (map sig_line (map sig_view (take l.sig-index l.sigs)))
