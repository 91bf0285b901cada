use Rattle.std.proofs.Common.{◌≡◌, ◌++◌, map, take}
use Rattle.std.specs.Prelude.{flat_map}
use Rattle.dc_goto.specs.View.{body_view}
use Rattle.dc_goto.specs.Text.{body_lines, line_bytes}
use Rattle.dc_print.proofs.lines.put_bodies.Given as goal

abbrev pub invariant-loop-body : goal.invariant-loop-body
invariant-loop-body l = l.lines ≡ l.fn.lines ++ map line_bytes (flat_map body_lines (map body_view (take l.body-index l.bodies)))
