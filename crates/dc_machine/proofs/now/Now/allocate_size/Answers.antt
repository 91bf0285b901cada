use Rattle.std.proofs.Common.{[], refl, ap, sym, ◌∙◌, arith}
use Rattle.dc_core.specs.Choices.{draw}
use Rattle.dc_core.specs.Event.{ChoicesEnded}
use Rattle.dc_goto.specs.Acts.{Next}
use Rattle.dc_machine.specs.Step.{acting}
use Rattle.dc_machine.specs.View.{now_view}
use Rattle.dc_machine.proofs.Draws.{allocated-straight, drawn_cut, drawn_ends, drawn_goes, drawn_step}
use Rattle.dc_machine.proofs.Listed.{allocating-large, allocating-small, cut_same, ends_same, goes_same, some-made, some-null, then_some}
use Rattle.dc_machine.proofs.Parts.{nothing_done, step_cut, step_same}
use Rattle.dc_world.proofs.Drawing.{IsTaken-none}
use Rattle.dc_machine.proofs.now.Now.allocate_size.Goals as goal

pub returns-then-size-gt16777216 : goal.returns-then-size-gt16777216
returns-then-size-gt16777216 g c = record {
  numbers = [];
  notes = [];
  goes = λ rest. allocating-large c.args.register c.args.bytes c.args.size (now_view c.args.self.now rest) c.if-size-gt16777216.true ∙ ap (Next []) (sym (c.in_ok-put.ensures rest));
  taken = IsTaken-none _;
  heard = refl;
}

pub returns-in_err-draw : goal.returns-in_err-draw
returns-in_err-draw g c =
    step_cut acting _ _ c.from_residual-in_err-draw.result _ _ _ _ c.from_residual-in_err-draw.ensures.0
    (cut_same _ _ _ _ _ _ (λ choices. allocating-small c.args.register c.args.bytes c.args.size (now_view c.args.self.now choices) (omega (arith, c.if-size-gt16777216.false)))
    (drawn_cut (draw 2) (now_view c.args.self.now) (then_some c.args.register c.args.bytes c.args.size) _ _ _ _ (allocated-straight c.args.register c.args.bytes c.args.size) c.in_err-draw.ensures.drawn))

pub returns-in-None : goal.returns-in-None
returns-in-None g c =
    ends_same _ _ ChoicesEnded _ _ _ _ (λ choices. allocating-small c.args.register c.args.bytes c.args.size (now_view c.args.self.now choices) (omega (arith, c.if-size-gt16777216.false)))
    (drawn_ends (draw 2) (now_view c.args.self.now) (then_some c.args.register c.args.bytes c.args.size) _ _ _ _ (rw c.in-None.is at c.in_ok-draw.ensures.drawn))

pub returns-in_ok-put-in-Some-eq0 : goal.returns-in_ok-put-in-Some-eq0
returns-in_ok-put-in-Some-eq0 g c =
    goes_same _ _ (now_view c.put-in-Some-eq0.new.self) _ _ _ _ (λ choices. allocating-small c.args.register c.args.bytes c.args.size (now_view c.args.self.now choices) (omega (arith, c.if-size-gt16777216.false)))
    (drawn_goes (draw 2) (now_view c.args.self.now) (now_view c.put-in-Some-eq0.new.self) (then_some c.args.register c.args.bytes c.args.size) c.in-Some-eq0.field-0 _ _ _ _ (λ choices rest. refl)
    (λ rest. some-null c.args.register c.args.bytes c.args.size c.in-Some-eq0.field-0 (now_view c.args.self.now rest) c.in-Some-eq0.field-0-test ∙ ap (Next []) (sym (c.in_ok-put-in-Some-eq0.ensures rest))) (rw c.in-Some-eq0.is at c.in_ok-draw.ensures.drawn))

pub returns-in-Some : goal.returns-in-Some
returns-in-Some g c =
    step_same acting _ _ (now_view c.create_heap.new.self) c.create_heap.result _ _ _ _ (λ choices. allocating-small c.args.register c.args.bytes c.args.size (now_view c.args.self.now choices) (omega (arith, c.if-size-gt16777216.false)))
    (drawn_step (draw 2) (now_view c.args.self.now) (now_view c.create_heap.new.self) (then_some c.args.register c.args.bytes c.args.size) c.in-Some.field-0 c.create_heap.result _ _ _ _ _ _ (λ choices rest. refl)
    (allocated-straight c.args.register c.args.bytes c.args.size) (rw c.in-Some.is at c.in_ok-draw.ensures.drawn)
    (step_same acting _ _ (now_view c.create_heap.new.self) c.create_heap.result _ _ _ _ (λ choices. some-made c.args.register c.args.bytes c.args.size c.in-Some.field-0 (now_view c.args.self.now choices) (omega (arith, c.in-Some.field-0-is))) c.create_heap.ensures))

pub returns-in_err-put : goal.returns-in_err-put
returns-in_err-put g c = step_cut acting _ _ c.from_residual.result _ _ _ _ c.from_residual.ensures.0 (nothing_done acting _ _ _)
