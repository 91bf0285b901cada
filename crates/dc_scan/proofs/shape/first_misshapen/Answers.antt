use Rattle.std.proofs.Common.{◌≡◌, ◌+◌, true, false, map, sym, ap, ◌∙◌}
use Rattle.std.specs.Prelude.{slice_get}
use Rattle.std.specs.Option.{option_map}
use Rattle.dc_scan.specs.Judging.{keeps_among}
use Rattle.dc_scan.specs.View.{head_view, line_view}
use Rattle.dc_scan.proofs.Judged.{keeps_new, walked_more, walked_broken}
use Rattle.dc_scan.proofs.Looked.{line_at, next_at}
use Rattle.dc_scan.proofs.shape.first_misshapen.Goals as goal

pub returns-then-not-keeps : goal.returns-then-not-keeps
returns-then-not-keeps c =
    let head = option_map (λ head. head_view head.now) c.loop-i.front.head in
    let front = option_map (λ line. line_view line.now) c.loop-i.front.line in
    let line = line_view c.index-lines-i.result in
    let next = next_at c.at.result c.args.lines.now (c.loop-i.i + 1) c.at.ensures in
    let here = line_at c.args.lines.now c.loop-i.i c.index-lines-i.result c.loop-i-test.true c.index-lines-i.is in
    let keep : keeps_among c.loop-i.front.functions c.loop-i.front.names head c.loop-i.front.count front line (slice_get (map line_view c.args.lines.now) (c.loop-i.i + 1)) ≡ false =
    ap (keeps_among c.loop-i.front.functions c.loop-i.front.names head c.loop-i.front.count front line) (sym next) ∙ sym c.keeps.ensures ∙ c.if-not-keeps.true in
    walked_broken c.loop-i.front.functions c.loop-i.front.names head c.loop-i.front.count front (map line_view c.args.lines.now) c.loop-i.i line c.loop-i.invariant here keep

pub push-requires : goal.push-requires
push-requires c =
    let head = option_map (λ head. head_view head.now) c.loop-i.front.head in
    let front = option_map (λ line. line_view line.now) c.loop-i.front.line in
    keeps_new c.loop-i.front.functions c.loop-i.front.names head c.loop-i.front.count front _ (line_view c.index-lines-i.result) _ _ c.loop-i.invariant.stands (sym c.keeps.ensures ∙ c.if-not-keeps.false)

pub loop-i-preserved : goal.loop-i-preserved
loop-i-preserved c =
    let head = option_map (λ head. head_view head.now) c.loop-i.front.head in
    let front = option_map (λ line. line_view line.now) c.loop-i.front.line in
    let line = line_view c.index-lines-i.result in
    let next = next_at c.at.result c.args.lines.now (c.loop-i.i + 1) c.at.ensures in
    let here = line_at c.args.lines.now c.loop-i.i c.index-lines-i.result c.loop-i-test.true c.index-lines-i.is in
    let keep : keeps_among c.loop-i.front.functions c.loop-i.front.names head c.loop-i.front.count front line (slice_get (map line_view c.args.lines.now) (c.loop-i.i + 1)) ≡ true =
    ap (keeps_among c.loop-i.front.functions c.loop-i.front.names head c.loop-i.front.count front line) (sym next) ∙ sym c.keeps.ensures ∙ c.if-not-keeps.false in
    walked_more c.loop-i.front.functions c.loop-i.front.names head c.loop-i.front.count front (map line_view c.args.lines.now) c.loop-i.i line c.loop-i.invariant here keep
    c.push.new.self.functions c.push.new.self.names (option_map (λ head. head_view head.now) c.push.new.self.head) c.push.new.self.count (option_map (λ line. line_view line.now) c.push.new.self.line)
    c.in_ok-push.ensures.functions c.in_ok-push.ensures.names c.in_ok-push.ensures.head c.in_ok-push.ensures.count c.in_ok-push.ensures.line
