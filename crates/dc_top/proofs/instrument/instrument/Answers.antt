use Rattle.dc_core.specs.View.{program_view}
use Rattle.dc_top.specs.Table.{inputs_of}
use Rattle.dc_top.proofs.Justified.{text_written}
use Rattle.dc_top.proofs.instrument.instrument.Goals as goal

pub returns-in-Ok-text-clause-says : goal.returns-in-Ok-text-clause-says
returns-in-Ok-text-clause-says g c = λ file.
    text_written (inputs_of (g.H.Shelf.files c.args.shelf.now) (g.H.Shelf.names c.args.shelf.now)) file c.args.name.now (program_view c.in-Ok.p) c.in-Ok-text.lines c.in-Ok.ensures.source c.in-Ok-text.ensures
    (λ w. record {
      formed = c.lowered_can_be_written.ensures.formed (program_view c.in-Ok.p) c.in-Ok.ensures.sound w;
      shaped = c.lowered_can_be_written.ensures.shaped (program_view c.in-Ok.p) c.in-Ok.ensures.sound w;
    })
    (c.lowered_is_exact.ensures (program_view c.in-Ok.p) c.in-Ok.ensures.sound)
