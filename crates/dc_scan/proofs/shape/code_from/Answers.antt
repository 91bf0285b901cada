use Rattle.std.proofs.Common.{◌≡◌, true, false, map, sym, ap, ◌∙◌}
use Rattle.std.specs.Prelude.{slice_get}
use Rattle.dc_goto.specs.Shape.{goes_on}
use Rattle.dc_scan.specs.View.{line_view}
use Rattle.dc_scan.proofs.Judged.{passed_more, passed_all}
use Rattle.dc_scan.proofs.Looked.{next_at}
use Rattle.dc_scan.proofs.shape.code_from.Goals as goal

pub each-preserved : goal.each-preserved
each-preserved c =
    let there : goes_on (slice_get (map line_view c.args.lines.now) c.each.end) ≡ true =
    ap goes_on (sym (next_at c.at.result c.args.lines.now c.each.end c.at.ensures)) ∙ sym c.goes_on.ensures ∙ c.each-test.true in
    passed_more (map line_view c.args.lines.now) c.args.from c.each.end c.each.invariant there

pub returns : goal.returns
returns c =
    let there : goes_on (slice_get (map line_view c.args.lines.now) c.each.end) ≡ false =
    ap goes_on (sym (next_at c.at.result c.args.lines.now c.each.end c.at.ensures)) ∙ sym c.goes_on.ensures ∙ c.each-test.false in
    passed_all (map line_view c.args.lines.now) c.args.from c.each.end c.each.invariant there
