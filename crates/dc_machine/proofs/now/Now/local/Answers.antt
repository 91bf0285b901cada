use Rattle.std.proofs.Common.{refl}
use Rattle.dc_memory.specs.declared.object.ObjKind.TheVariants.{Stack}
use Rattle.dc_machine.specs.Creating.{created}
use Rattle.dc_machine.specs.Step.{acting}
use Rattle.dc_machine.specs.View.{now_view}
use Rattle.dc_machine.proofs.Draws.{broke_behind}
use Rattle.dc_machine.proofs.Listed.{local-put, making_cut, making_ends, making_full, making_goes, then_local}
use Rattle.dc_machine.proofs.Parts.{nothing_done, step_cut}
use Rattle.dc_machine.proofs.now.Now.local.Goals as goal

pub returns-then-is_full : goal.returns-then-is_full
returns-then-is_full g c = λ p name. making_full Stack c.args.bytes c.args.size c.args.self.now c.is_full.result (then_local c.args.register) _ _ c.is_full.ensures c.if-is_full.true

pub returns-in_err-try_reserve : goal.returns-in_err-try_reserve
returns-in_err-try_reserve g c = λ p name. step_cut acting _ _ c.from_residual.result _ _ _ _ c.from_residual.ensures.0 (nothing_done acting _ _ _)

pub returns-in_err-made : goal.returns-in_err-made
returns-in_err-made g c = λ p name.
    step_cut acting _ _ c.from_residual-in_err-made.result _ _ _ _ c.from_residual-in_err-made.ensures.0
    (making_cut Stack c.args.bytes c.args.size c.args.self.now c.is_full.result (then_local c.args.register) _ _ _ _ c.is_full.ensures c.if-is_full.false (λ object t notes. refl) c.in_err-made.ensures.drawn)

pub returns-in_default : goal.returns-in_default
returns-in_default g c = λ p name.
    making_ends Stack c.args.bytes c.args.size c.args.self.now c.is_full.result (then_local c.args.register) _ _ _ _ c.is_full.ensures c.if-is_full.false (rw c.in_default.is at c.in_ok-made.ensures.drawn)

pub returns : goal.returns
returns g c = λ p name.
    making_goes Stack c.args.bytes c.args.size c.args.self.now c.is_full.result (then_local c.args.register) c.create.new.memory (now_view c.put.new.self) _ _ _ _ c.is_full.ensures c.if-is_full.false
    (λ rest. local-put c.args.register c.in-Some.number _ c.start.result c.args.self.now.locals.items c.try_reserve.new.self.items c.push_reserved.new.self.items _ _ (rw c.in-Some.is at c.in_ok-made.ensures.small) (rw c.in-Some.is at c.in_ok-made.ensures.number) c.start.ensures refl c.in_ok-try_reserve.ensures.items c.push_reserved.ensures.items (c.in_ok-put.ensures rest)) (rw c.in-Some.is at c.in_ok-made.ensures.drawn)

pub returns-in_err-put : goal.returns-in_err-put
returns-in_err-put g c = λ p name.
    step_cut acting _ _ c.from_residual-in_err-put.result _ _ _ _ c.from_residual-in_err-put.ensures.0
    (making_cut Stack c.args.bytes c.args.size c.args.self.now c.is_full.result (then_local c.args.register) _ _ _ _ c.is_full.ensures c.if-is_full.false (λ object t notes. refl)
    (broke_behind (created Stack c.args.bytes c.args.size c.args.self.now.memory) c.create.new.memory _ _ _ _ (rw c.in-Some.is at c.in_ok-made.ensures.drawn)))
