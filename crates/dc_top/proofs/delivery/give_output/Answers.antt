use Rattle.std.proofs.Common.{refl, subst}
use Rattle.std.specs.Prelude.{flat_map}
use Rattle.dc_outside.specs.Sink.{Adds, AddsPrefix}
use Rattle.dc_top.proofs.Delivered.{output_given, output_failed, untouched}
use Rattle.dc_top.proofs.delivery.give_output.Goals as goal

pub returns-in-Ok : goal.returns-in-Ok
returns-in-Ok g c =
    output_given c.args.answer.now c.args.lines.now _ _ _ c.requires c.status.ensures
    record {
      gained = subst (λ lines. Adds (g.O.Sink.written c.args.out.now) (g.O.Sink.written c.write_lines.new.sink) (flat_map (λ line. line) lines)) c.as_slice.ensures c.in-Ok.ensures.ok;
      kept = c.in-Ok.ensures.kept;
    }
    (untouched c.adds_nothing.ensures _ refl refl)

pub returns-in-Err : goal.returns-in-Err
returns-in-Err g c =
    output_failed c.args.answer.now c.args.lines.now _ _ _ c.requires
    record {
      fault = c.in-Err.ensures.fault;
      prefix = subst (λ lines. AddsPrefix (g.O.Sink.written c.args.out.now) (g.O.Sink.written c.write_lines.new.sink) (flat_map (λ line. line) lines)) c.as_slice.ensures c.in-Err.ensures.prefix;
    }
    c.complain.ensures
