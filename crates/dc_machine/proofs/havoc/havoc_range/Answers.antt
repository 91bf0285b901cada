use Rattle.std.proofs.Common.{◌∷◌, [], sym, ◌∙◌}
use Rattle.dc_goto.specs.Acts.{havocked}
use Rattle.dc_world.proofs.Drawing.{resumed_last, resumed_none, resumed_same}
use Rattle.dc_machine.specs.Over.{overwritten}
use Rattle.dc_machine.proofs.Draws.{drew-at-once, havoc-dead, havoc-live}
use Rattle.dc_machine.proofs.Listed.{range_of}
use Rattle.dc_machine.proofs.havoc.havoc_range.Goals as goal

pub returns-then-not-is_live : goal.returns-then-not-is_live
returns-then-not-is_live g c =
    drew-at-once (havocked (range_of c.args.object c.args.from c.args.len ∷ []) c.args.memory.now) c.args.memory.now _ _
    (λ rest. havoc-dead (range_of c.args.object c.args.from c.args.len) [] c.args.memory.now rest (sym c.is_live.ensures ∙ c.if-not-is_live.true))

pub returns : goal.returns
returns g c =
    resumed_last (λ u. c.draw_over.new.memory) (havocked (range_of c.args.object c.args.from c.args.len ∷ []) c.args.memory.now) (overwritten c.args.object c.args.from c.args.len c.args.memory.now) c.draw_over.result _ _ _ _ _ _
    (resumed_same (havocked (range_of c.args.object c.args.from c.args.len ∷ []) c.args.memory.now) (havocked (range_of c.args.object c.args.from c.args.len ∷ []) c.args.memory.now) (overwritten c.args.object c.args.from c.args.len c.args.memory.now) _ _ _ _
    (resumed_none (havocked (range_of c.args.object c.args.from c.args.len ∷ []) c.args.memory.now) _ _)
    (λ choices. havoc-live (range_of c.args.object c.args.from c.args.len) [] c.args.memory.now choices (sym c.is_live.ensures ∙ c.if-not-is_live.false))) c.draw_over.ensures
