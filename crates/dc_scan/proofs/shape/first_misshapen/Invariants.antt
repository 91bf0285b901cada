use Rattle.std.proofs.Common.{map}
use Rattle.std.specs.Option.{option_map}
use Rattle.dc_scan.specs.View.{head_view, line_view}
use Rattle.dc_scan.proofs.Judged.{Walked}
use Rattle.dc_scan.proofs.shape.first_misshapen.Given as goal

abbrev pub invariant-loop-i : goal.invariant-loop-i
invariant-loop-i l =
    Walked l.front.functions l.front.names (option_map (λ head. head_view head.now) l.front.head) l.front.count (option_map (λ line. line_view line.now) l.front.line) (map line_view l.lines) l.i
