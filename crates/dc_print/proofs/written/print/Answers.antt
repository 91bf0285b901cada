use Rattle.std.proofs.Common.{◌≡◌, map}
use Rattle.std.specs.Prelude.{flat_map}
use Rattle.dc_goto.specs.Text.{line_bytes, lines_of}
use Rattle.dc_goto.specs.View.{goto_view}
use Rattle.dc_print.proofs.Cuts.{whole_text}
use Rattle.dc_print.proofs.written.print.Goals as goal

pub returns-in-Ok-clause-ok : goal.returns-in-Ok-clause-ok
returns-in-Ok-clause-ok g c =
    let lines : c.as_slice.result.now ≡ map line_bytes (lines_of (goto_view c.args.p.now)) = cc (c.in_ok-lines.ensures, c.as_slice.ensures) in
    record {
      bytes = flat_map (λ line. line) c.as_slice.result.now;
      spelt = whole_text (goto_view c.args.p.now) c.as_slice.result.now lines;
      added = c.in-Ok.ensures.ok;
    }

pub returns-clause-prefix : goal.returns-clause-prefix
returns-clause-prefix g c =
    let lines : c.as_slice.result.now ≡ map line_bytes (lines_of (goto_view c.args.p.now)) = cc (c.in_ok-lines.ensures, c.as_slice.ensures) in
    record {
      bytes = flat_map (λ line. line) c.as_slice.result.now;
      spelt = whole_text (goto_view c.args.p.now) c.as_slice.result.now lines;
      added = c.in-Err.ensures.prefix;
    }
