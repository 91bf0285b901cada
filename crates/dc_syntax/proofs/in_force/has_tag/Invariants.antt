use Rattle.std.proofs.Common.{◌≡◌, drop}
use Rattle.std.specs.List.{list_any}
use Rattle.dc_syntax.specs.Trees.{is_tag}
use Rattle.dc_syntax.specs.View.{raw_view}
use Rattle.dc_syntax.proofs.in_force.has_tag.Given as goal

abbrev pub invariant-loop-spec : goal.invariant-loop-spec
invariant-loop-spec l = list_any (λ s. is_tag (raw_view s)) (drop l.spec-index l.specs) ≡ list_any (λ s. is_tag (raw_view s)) l.specs
