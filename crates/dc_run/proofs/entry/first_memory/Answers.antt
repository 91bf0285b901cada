use Rattle.std.proofs.Common.{◌∷◌, refl}
use Rattle.dc_core.specs.Choices.{give}
use Rattle.dc_core.specs.Entry.{static_objects, static_sizes}
use Rattle.dc_core.specs.Objects.{function_object}
use Rattle.dc_core.specs.View.{program_view}
use Rattle.dc_world.specs.View.{objects_view}
use Rattle.dc_world.proofs.Drawing.{resumed_none, resumed_more, resumed_done, resumed_dry, resumed_cut, resumed_stop, drawing_cut, broke_at_once}
use Rattle.dc_run.specs.Entry.{drawn_variables}
use Rattle.dc_run.proofs.Entries.{behind_function, same_drawn}
use Rattle.dc_run.proofs.entry.first_memory.Goals as goal

pub returns-in_err-sizes : goal.returns-in_err-sizes
returns-in_err-sizes g c = drawing_cut (λ memory. memory) (drawn_variables (program_view c.args.p.now)) c.from_residual.result _ _ _ _ c.from_residual.ensures.0 (broke_at_once (drawn_variables (program_view c.args.p.now)) _ _)

pub returns-in_err-add_function : goal.returns-in_err-add_function
returns-in_err-add_function g c = drawing_cut (λ memory. memory) (drawn_variables (program_view c.args.p.now)) c.from_residual-in_err-add_function.result _ _ _ _ c.from_residual-in_err-add_function.ensures.0 (broke_at_once (drawn_variables (program_view c.args.p.now)) _ _)

pub returns-in_err-objects : goal.returns-in_err-objects
returns-in_err-objects g c =
    let drawn = rw (c.as_slice.ensures.value, c.in_ok-sizes.ensures) at c.in_err-objects.ensures in
    drawing_cut (λ memory. memory) (drawn_variables (program_view c.args.p.now)) c.from_residual-in_err-objects.result _ _ _ _ c.from_residual-in_err-objects.ensures.0
    (resumed_cut (drawn_variables (program_view c.args.p.now)) (drawn_variables (program_view c.args.p.now)) (static_objects (static_sizes (program_view c.args.p.now))) (λ statics. give (function_object ∷ statics)) _ _ _ _ _ _ (resumed_none (drawn_variables (program_view c.args.p.now)) _ _) (λ choices. refl) drawn)

pub returns-in_default : goal.returns-in_default
returns-in_default g c =
    let drawn = rw (c.in_default.is, c.as_slice.ensures.value, c.in_ok-sizes.ensures) at c.in_ok-objects.ensures in
    resumed_dry (drawn_variables (program_view c.args.p.now)) (drawn_variables (program_view c.args.p.now)) (static_objects (static_sizes (program_view c.args.p.now))) (λ statics. give (function_object ∷ statics)) _ _ _ _ _ _ (resumed_none (drawn_variables (program_view c.args.p.now)) _ _) (λ choices. refl) drawn

pub returns-in_err-add_all : goal.returns-in_err-add_all
returns-in_err-add_all g c =
    let drawn = rw (c.in-Some.is, c.as_slice.ensures.value, c.in_ok-sizes.ensures) at c.in_ok-objects.ensures in
    drawing_cut (λ memory. memory) (drawn_variables (program_view c.args.p.now)) c.from_residual-in_err-add_all.result _ _ _ _ c.from_residual-in_err-add_all.ensures.0
    (resumed_stop (drawn_variables (program_view c.args.p.now)) (give (function_object ∷ objects_view c.in-Some.objects.items)) _ _ _ _ (resumed_more (drawn_variables (program_view c.args.p.now)) (drawn_variables (program_view c.args.p.now)) (static_objects (static_sizes (program_view c.args.p.now))) (λ statics. give (function_object ∷ statics)) (objects_view c.in-Some.objects.items) _ _ _ _ _ _ (resumed_none (drawn_variables (program_view c.args.p.now)) _ _) (λ choices. refl) drawn))

pub returns : goal.returns
returns g c =
    let drawn = rw (c.in-Some.is, c.as_slice.ensures.value, c.in_ok-sizes.ensures) at c.in_ok-objects.ensures in
    resumed_done (drawn_variables (program_view c.args.p.now)) (give (function_object ∷ objects_view c.in-Some.objects.items)) c.add_all.new.memory _ _ _ _
    (resumed_more (drawn_variables (program_view c.args.p.now)) (drawn_variables (program_view c.args.p.now)) (static_objects (static_sizes (program_view c.args.p.now))) (λ statics. give (function_object ∷ statics)) (objects_view c.in-Some.objects.items) _ _ _ _ _ _ (resumed_none (drawn_variables (program_view c.args.p.now)) _ _) (λ choices. refl) drawn)
    (λ choices. same_drawn _ _ choices (behind_function c.add_function.new.memory c.add_all.new.memory (objects_view c.in-Some.objects.items) (rw c.new-memory.ensures at c.in_ok-add_function.ensures.ok) c.in_ok-add_all.ensures))
