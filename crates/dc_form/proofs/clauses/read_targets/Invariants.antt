use Rattle.std.proofs.Common.{◌≡◌, ◌≤◌, map, length}
use Rattle.dc_core.specs.View.{target_view}
use Rattle.std.specs.Prelude.{All}
use Rattle.dc_form.specs.Read.Clauses.{read_targets}
use Rattle.dc_form.specs.Read.Whole.{IsWholeTarget}
use Rattle.dc_form.proofs.clauses.read_targets.Given as goal

abbrev pub invariant-loop-word : goal.invariant-loop-word
invariant-loop-word l =
    (read_targets l.names l.statics (map target_view l.fn.targets) l.fn.tokens ≡ read_targets l.names l.statics (map target_view l.targets) l.tokens)
    × (length l.tokens ≤ length l.fn.tokens)
    × (All IsWholeTarget l.fn.targets → All IsWholeTarget l.targets)

abbrev pub decreases-loop-word : goal.decreases-loop-word
decreases-loop-word l = length l.tokens
