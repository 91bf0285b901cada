use Rattle.std.proofs.Common.{◌≡◌, ◌++◌, map, take}
use Rattle.dc_goto.specs.View.{instr_view}
use Rattle.dc_goto.specs.Text.{instr_line, line_bytes}
use Rattle.dc_print.proofs.lines.put_code.Given as goal

abbrev pub invariant-loop-instr : goal.invariant-loop-instr
invariant-loop-instr l = l.lines ≡ l.fn.lines ++ map line_bytes (map instr_line (map instr_view (take l.instr-index l.code)))
