use Rattle.std.proofs.Common.{arith, subst, take}
use Rattle.std.specs.Prelude.{flat_map}
use Rattle.dc_outside.specs.Sink.{AddsPrefix}
use Rattle.dc_print.proofs.Cuts.{cut_at}
use Rattle.dc_print.proofs.written.write_lines.Goals as goal

pub returns-in-Err-clause-prefix : goal.returns-in-Err-clause-prefix
returns-in-Err-clause-prefix g c =
    let cut = cut_at c.args.lines.now c.loop-line.line-index c.line-item.result (omega arith) c.line-item.is in
    c.prefix_behind.ensures (g.S.Sink.written c.args.sink.now) (g.S.Sink.written c.loop-line.sink) (g.S.Sink.written c.write_all.new.sink)
    (flat_map (λ line. line) (take c.loop-line.line-index c.args.lines.now)) c.line-item.result cut.0 (flat_map (λ line. line) c.args.lines.now) cut.1 c.loop-line.invariant.0
    (subst (AddsPrefix (g.S.Sink.written c.loop-line.sink) (g.S.Sink.written c.write_all.new.sink)) c.as_slice.ensures c.in-Err.ensures.prefix)
