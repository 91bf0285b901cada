use Rattle.std.proofs.Common.{[], ◌∷◌, map, sym, ap, ◌∙◌}
use Rattle.std.proofs.lemmas.List.{map-append}
use Rattle.dc_scan.specs.Assembling.{added, added_all, none_added}
use Rattle.dc_scan.specs.View.{line_view}
use Rattle.dc_scan.proofs.Assembled.{added_more}
use Rattle.dc_scan.proofs.assembly.assemble.Goals as goal

pub loop-line-preserved : goal.loop-line-preserved
loop-line-preserved c =
    c.in_ok-add.ensures ∙ ap (λ a. added a (line_view c.in-Some.line)) c.loop-line.invariant
    ∙ sym (ap (added_all none_added) (map-append line_view c.loop-line.yielded (c.in-Some.line ∷ []))
    ∙ added_more none_added (map line_view c.loop-line.yielded) (line_view c.in-Some.line))
