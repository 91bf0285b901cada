use Rattle.std.proofs.Common.{◌≡◌, take}
use Rattle.std.specs.Prelude.{flat_map}
use Rattle.dc_outside.specs.Sink.{Adds}
use Rattle.dc_print.proofs.written.write_lines.Given as goal

abbrev pub invariant-loop-line : goal.invariant-loop-line
invariant-loop-line g l =
    Adds (g.S.Sink.written l.fn.sink) (g.S.Sink.written l.sink) (flat_map (λ line. line) (take l.line-index l.lines))
    × (g.S.Sink.faults l.sink ≡ g.S.Sink.faults l.fn.sink)
