use Rattle.std.proofs.Common.{◌≡◌, None, map, sym, ap, ◌∙◌}
use Rattle.dc_goto.specs.Shape.{first_misshapen}
use Rattle.dc_goto.specs.View.{goto_view}
use Rattle.dc_scan.specs.View.{line_view}
use Rattle.dc_scan.proofs.Assembled.{text_made}
use Rattle.dc_scan.proofs.scanner.scan_text.Goals as goal

pub returns-in_ok-program-in-None-clause-text : goal.returns-in_ok-program-in-None-clause-text
returns-in_ok-program-in-None-clause-text c =
    let shaped : first_misshapen (map line_view c.in-Ok.lines.items) ≡ None =
    ap (λ lines. first_misshapen (map line_view lines)) (sym c.as_slice.ensures.value) ∙ sym c.in_ok-number.ensures ∙ c.in-None.is in
    text_made c.args.bytes.now (goto_view c.in_ok-program-in-None.program) (map line_view c.in-Ok.lines.items) c.in-Ok.ensures.found shaped c.in_ok-program-in-None.ensures
