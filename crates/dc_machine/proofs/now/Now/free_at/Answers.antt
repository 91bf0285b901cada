use Rattle.std.proofs.Common.{[], ◌∷◌, refl, ap, sym, ◌∙◌}
use Rattle.dc_core.specs.Event.{Free}
use Rattle.dc_core.specs.Run.{Did}
use Rattle.dc_goto.specs.Acts.{Next, freeing}
use Rattle.dc_memory.specs.Places.{object_of}
use Rattle.dc_machine.specs.Step.{acting}
use Rattle.dc_machine.specs.View.{now_view}
use Rattle.dc_machine.proofs.Acts.{freed-as, told-free}
use Rattle.dc_machine.proofs.Parts.{alone_same}
use Rattle.dc_machine.proofs.now.Now.free_at.Goals as goal

pub returns-then-not-is_heap_start : goal.returns-then-not-is_heap_start
returns-then-not-is_heap_start g c =
    alone_same acting _ _ (now_view c.args.self.now) c.unless.result _ _
    (λ choices. ap (λ b. freeing c.args.name.now c.args.pointer b (now_view c.args.self.now choices)) (sym c.is_heap_start.ensures ∙ c.if-not-is_heap_start.true))
    (c.unless.ensures (now_view c.args.self.now) _ (λ choices. refl))

pub returns : goal.returns
returns g c = record {
  notes = Did (Free (object_of c.args.pointer)) ∷ [];
  goes = λ rest.
      ap (λ b. freeing c.args.name.now c.args.pointer b (now_view c.args.self.now rest)) (sym c.is_heap_start.ensures ∙ c.if-not-is_heap_start.false)
      ∙ ap (Next (Did (Free (object_of c.args.pointer)) ∷ []))
      (freed-as (now_view c.args.self.now rest) c.note_freed.new.self c.let_die.new.memory (object_of c.args.pointer) c.object_number-object.result c.object_number-object.ensures c.in_ok-note_freed.ensures.ok c.let_die.ensures);
  heard = c.tell.ensures ∙ told-free _ _ _ c.object_number-object.ensures;
}
