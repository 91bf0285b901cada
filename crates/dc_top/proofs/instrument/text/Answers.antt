use Rattle.std.proofs.Common.{◌≡◌, map, subst}
use Rattle.std.specs.Prelude.{IfOk}
use Rattle.dc_core.specs.View.{program_view}
use Rattle.dc_goto.specs.Text.{line_bytes, lines_of}
use Rattle.dc_top.proofs.instrument.text.Goals as goal

pub returns : goal.returns
returns c =
    subst (λ q. IfOk c.text_lines.result (λ lines. lines ≡ map line_bytes (lines_of q))) (c.in_ok-lowered.ensures (program_view c.args.p.now) c.requires) c.text_lines.ensures
