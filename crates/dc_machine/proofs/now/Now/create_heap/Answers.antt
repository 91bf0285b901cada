use Rattle.std.proofs.Common.{refl}
use Rattle.dc_memory.specs.declared.object.ObjKind.TheVariants.{Heap}
use Rattle.dc_machine.specs.Creating.{created}
use Rattle.dc_machine.specs.Step.{acting}
use Rattle.dc_machine.specs.View.{now_view}
use Rattle.dc_machine.proofs.Draws.{broke_behind}
use Rattle.dc_machine.proofs.Listed.{heap-put, making_cut, making_ends, making_full, making_goes, then_heap}
use Rattle.dc_machine.proofs.Parts.{step_cut}
use Rattle.dc_machine.proofs.now.Now.create_heap.Goals as goal

pub returns-then-is_full : goal.returns-then-is_full
returns-then-is_full g c = making_full Heap c.args.bytes c.args.size c.args.self.now c.is_full.result (then_heap c.args.register) _ _ c.is_full.ensures c.if-is_full.true

pub returns-in_err-made : goal.returns-in_err-made
returns-in_err-made g c =
    step_cut acting _ _ c.from_residual.result _ _ _ _ c.from_residual.ensures.0
    (making_cut Heap c.args.bytes c.args.size c.args.self.now c.is_full.result (then_heap c.args.register) _ _ _ _ c.is_full.ensures c.if-is_full.false (λ object t notes. refl) c.in_err-made.ensures.drawn)

pub returns-in_default : goal.returns-in_default
returns-in_default g c =
    making_ends Heap c.args.bytes c.args.size c.args.self.now c.is_full.result (then_heap c.args.register) _ _ _ _ c.is_full.ensures c.if-is_full.false (rw c.in_default.is at c.in_ok-made.ensures.drawn)

pub returns : goal.returns
returns g c =
    making_goes Heap c.args.bytes c.args.size c.args.self.now c.is_full.result (then_heap c.args.register) c.create.new.memory (now_view c.put.new.self) _ _ _ _ c.is_full.ensures c.if-is_full.false
    (λ rest. heap-put c.args.register c.in-Some.number _ c.start.result _ _ (rw c.in-Some.is at c.in_ok-made.ensures.small) (rw c.in-Some.is at c.in_ok-made.ensures.number) c.start.ensures (c.in_ok-put.ensures rest)) (rw c.in-Some.is at c.in_ok-made.ensures.drawn)

pub returns-in_err-put : goal.returns-in_err-put
returns-in_err-put g c =
    step_cut acting _ _ c.from_residual-in_err-put.result _ _ _ _ c.from_residual-in_err-put.ensures.0
    (making_cut Heap c.args.bytes c.args.size c.args.self.now c.is_full.result (then_heap c.args.register) _ _ _ _ c.is_full.ensures c.if-is_full.false (λ object t notes. refl)
    (broke_behind (created Heap c.args.bytes c.args.size c.args.self.now.memory) c.create.new.memory _ _ _ _ (rw c.in-Some.is at c.in_ok-made.ensures.drawn)))
