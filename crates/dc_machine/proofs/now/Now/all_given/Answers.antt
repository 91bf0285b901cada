use Rattle.std.proofs.Common.{map, ap, arith}
use Rattle.dc_core.specs.View.{term_view}
use Rattle.dc_machine.specs.View.{now_view}
use Rattle.dc_machine.proofs.Asking.{alongside-more, alongside-none, alongside-end}
use Rattle.dc_machine.proofs.Ends.{mapped-drop, nothing-behind}
use Rattle.dc_machine.proofs.now.Now.all_given.Goals as goal

pub returns-in-None : goal.returns-in-None
returns-in-None c =
    alongside-none (map term_view c.args.terms.now) _ _ c.loop-term.values.items (term_view c.term-item.result) _ (now_view c.args.self.now) (now_view c.loop-term.self) (now_view c.asked.new.self) c.loop-term.invariant
    (mapped-drop term_view c.args.terms.now c.loop-term.term-index c.term-item.result (omega arith) c.term-item.is) c.in_ok-held.ensures c.in-None.is

pub loop-term-preserved : goal.loop-term-preserved
loop-term-preserved c =
    rw (c.in_ok-push-in-Some.ensures.items, c.in-Some.is)
    (alongside-more (map term_view c.args.terms.now) _ _ c.loop-term.values.items (term_view c.term-item.result) _ c.in-Some.field-0 (now_view c.args.self.now) (now_view c.loop-term.self) (now_view c.asked.new.self) c.loop-term.invariant
    (mapped-drop term_view c.args.terms.now c.loop-term.term-index c.term-item.result (omega arith) c.term-item.is) c.in_ok-held.ensures c.in-Some.is)

pub returns : goal.returns
returns c =
    alongside-end (map term_view c.args.terms.now) _ c.loop-term.values.items (now_view c.args.self.now) (now_view c.loop-term.self) c.loop-term.invariant
    (ap (map term_view) (nothing-behind c.loop-term.term-index c.args.terms.now (omega arith)))
