use Rattle.std.proofs.Common.{◌≡◌, drop}
use Rattle.serde_json.specs.View.{items_view}
use Rattle.dc_choice.specs.Reading.{after, judged_from}
use Rattle.dc_choice.proofs.read.numbers_of.Given as goal

abbrev pub invariant-loop-place : goal.invariant-loop-place
invariant-loop-place l = judged_from 0 (items_view l.members) ≡ after l.numbers.items (judged_from l.place (items_view (drop l.place l.members)))
