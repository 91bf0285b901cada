use Rattle.std.proofs.Common.{◌+◌, ◌++◌, ◌∷◌, [], refl, arith}
use Rattle.dc_goto.specs.Acts.{first_bytes}
use Rattle.dc_memory.specs.Objects.{holding}
use Rattle.dc_world.specs.View.{kind_view}
use Rattle.dc_world.proofs.Drawing.{broke_at_once, drawing_cut, resumed_cut, resumed_done, resumed_dry, resumed_more, resumed_stop}
use Rattle.dc_machine.specs.Creating.{created}
use Rattle.dc_machine.proofs.Draws.{created-told}
use Rattle.dc_machine.proofs.Listed.{filling, with_last}
use Rattle.dc_machine.proofs.objects.create.Goals as goal

pub returns-then-size-gt16777216-clause-drawn : goal.returns-then-size-gt16777216-clause-drawn
returns-then-size-gt16777216-clause-drawn g c = broke_at_once (created (kind_view c.args.storage) c.args.bytes c.args.size c.args.memory.now) _ _

pub returns-in_err-values-clause-drawn : goal.returns-in_err-values-clause-drawn
returns-in_err-values-clause-drawn g c =
    drawing_cut (λ number. c.args.memory.now) (created (kind_view c.args.storage) c.args.bytes c.args.size c.args.memory.now) c.from_residual.result _ _ _ _ c.from_residual.ensures.0
    (resumed_cut (created (kind_view c.args.storage) c.args.bytes c.args.size c.args.memory.now) (filling (kind_view c.args.storage) c.args.bytes c.args.size c.args.memory.now) (first_bytes c.args.bytes c.args.size) (with_last (kind_view c.args.storage) c.args.memory.now) _ _ _ _ _ _
    (created-told (kind_view c.args.storage) c.args.bytes c.args.size c.args.memory.now (c.count-number.result + 1) _ _ _ (omega (arith, c.count-number.ensures.value)) c.tell.ensures) (λ choices. refl) c.in_err-values.ensures)

pub returns-in_default-clause-drawn : goal.returns-in_default-clause-drawn
returns-in_default-clause-drawn g c =
    resumed_dry (created (kind_view c.args.storage) c.args.bytes c.args.size c.args.memory.now) (filling (kind_view c.args.storage) c.args.bytes c.args.size c.args.memory.now) (first_bytes c.args.bytes c.args.size) (with_last (kind_view c.args.storage) c.args.memory.now) _ _ _ _ _ _
    (created-told (kind_view c.args.storage) c.args.bytes c.args.size c.args.memory.now (c.count-number.result + 1) _ _ _ (omega (arith, c.count-number.ensures.value)) c.tell.ensures) (λ choices. refl) (rw c.in_default.is at c.in_ok-values.ensures)

pub returns-in_err-add-clause-drawn : goal.returns-in_err-add-clause-drawn
returns-in_err-add-clause-drawn g c =
    drawing_cut (λ number. c.add.new.memory) (created (kind_view c.args.storage) c.args.bytes c.args.size c.args.memory.now) c.from_residual-in_err-add.result _ _ _ _ c.from_residual-in_err-add.ensures.0
    (resumed_stop (created (kind_view c.args.storage) c.args.bytes c.args.size c.args.memory.now) (with_last (kind_view c.args.storage) c.args.memory.now c.in-Some.values.items) _ _ _ _
    (resumed_more (created (kind_view c.args.storage) c.args.bytes c.args.size c.args.memory.now) (filling (kind_view c.args.storage) c.args.bytes c.args.size c.args.memory.now) (first_bytes c.args.bytes c.args.size) (with_last (kind_view c.args.storage) c.args.memory.now) c.in-Some.values.items _ _ _ _ _ _
    (created-told (kind_view c.args.storage) c.args.bytes c.args.size c.args.memory.now (c.count-number.result + 1) _ _ _ (omega (arith, c.count-number.ensures.value)) c.tell.ensures) (λ choices. refl) (rw c.in-Some.is at c.in_ok-values.ensures)))

pub returns-clause-drawn : goal.returns-clause-drawn
returns-clause-drawn g c =
    rw c.in_ok-add.ensures.ok
    (resumed_done (created (kind_view c.args.storage) c.args.bytes c.args.size c.args.memory.now) (with_last (kind_view c.args.storage) c.args.memory.now c.in-Some.values.items) (c.args.memory.now ++ holding (kind_view c.args.storage) c.in-Some.values.items ∷ []) _ _ _ _
    (resumed_more (created (kind_view c.args.storage) c.args.bytes c.args.size c.args.memory.now) (filling (kind_view c.args.storage) c.args.bytes c.args.size c.args.memory.now) (first_bytes c.args.bytes c.args.size) (with_last (kind_view c.args.storage) c.args.memory.now) c.in-Some.values.items _ _ _ _ _ _
    (created-told (kind_view c.args.storage) c.args.bytes c.args.size c.args.memory.now (c.count-number.result + 1) _ _ _ (omega (arith, c.count-number.ensures.value)) c.tell.ensures) (λ choices. refl) (rw c.in-Some.is at c.in_ok-values.ensures))
    (λ choices. refl))
