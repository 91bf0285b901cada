use Rattle.std.proofs.Common.{refl}
use Rattle.std.proofs.lemmas.List.{length-map}
use Rattle.dc_core.specs.Choices.{◌>>=◌, give}
use Rattle.dc_core.specs.Entry.{entry_memory, draw_arguments}
use Rattle.dc_core.specs.View.{program_view}
use Rattle.dc_world.proofs.Drawing.{resumed_none, resumed_more, resumed_done, resumed_dry, resumed_cut, drawing_cut}
use Rattle.dc_run.specs.Entry.{start_of, starts, entry_view}
use Rattle.dc_run.proofs.Entries.{few_from_entry}
use Rattle.dc_run.proofs.entry.draw_entry.Goals as goal

pub returns-in_err-memory-clause-drawn : goal.returns-in_err-memory-clause-drawn
returns-in_err-memory-clause-drawn g c =
    drawing_cut entry_view (starts (program_view c.args.p.now)) c.from_residual.result _ _ _ _ c.from_residual.ensures.0
    (resumed_cut (starts (program_view c.args.p.now)) (starts (program_view c.args.p.now)) (entry_memory (program_view c.args.p.now)) (λ memory. draw_arguments (program_view c.args.p.now).function.params >>= λ arguments. give (start_of memory arguments)) _ _ _ _ _ _ (resumed_none (starts (program_view c.args.p.now)) _ _) (λ choices. refl) c.in_err-memory.ensures)

pub returns-in_default-clause-drawn : goal.returns-in_default-clause-drawn
returns-in_default-clause-drawn g c =
    resumed_dry (starts (program_view c.args.p.now)) (starts (program_view c.args.p.now)) (entry_memory (program_view c.args.p.now)) (λ memory. draw_arguments (program_view c.args.p.now).function.params >>= λ arguments. give (start_of memory arguments)) _ _ _ _ _ _ (resumed_none (starts (program_view c.args.p.now)) _ _) (λ choices. refl) (rw c.in_default.is at c.in_ok-memory.ensures)

pub returns-in_err-arguments-clause-drawn : goal.returns-in_err-arguments-clause-drawn
returns-in_err-arguments-clause-drawn g c =
    drawing_cut entry_view (starts (program_view c.args.p.now)) c.from_residual-in_err-arguments.result _ _ _ _ c.from_residual-in_err-arguments.ensures.0
    (resumed_cut (starts (program_view c.args.p.now)) (draw_arguments (program_view c.args.p.now).function.params >>= λ arguments. give (start_of c.in-Some.memory arguments)) (draw_arguments (program_view c.args.p.now).function.params) (λ arguments. give (start_of c.in-Some.memory arguments)) _ _ _ _ _ _
    (resumed_more (starts (program_view c.args.p.now)) (starts (program_view c.args.p.now)) (entry_memory (program_view c.args.p.now)) (λ memory. draw_arguments (program_view c.args.p.now).function.params >>= λ arguments. give (start_of memory arguments)) c.in-Some.memory _ _ _ _ _ _ (resumed_none (starts (program_view c.args.p.now)) _ _) (λ choices. refl) (rw c.in-Some.is at c.in_ok-memory.ensures))
    (λ choices. refl) (rw c.parameters.ensures at c.in_err-arguments.ensures))

pub returns-in_default-2-clause-drawn : goal.returns-in_default-2-clause-drawn
returns-in_default-2-clause-drawn g c =
    resumed_dry (starts (program_view c.args.p.now)) (draw_arguments (program_view c.args.p.now).function.params >>= λ arguments. give (start_of c.in-Some.memory arguments)) (draw_arguments (program_view c.args.p.now).function.params) (λ arguments. give (start_of c.in-Some.memory arguments)) _ _ _ _ _ _
    (resumed_more (starts (program_view c.args.p.now)) (starts (program_view c.args.p.now)) (entry_memory (program_view c.args.p.now)) (λ memory. draw_arguments (program_view c.args.p.now).function.params >>= λ arguments. give (start_of memory arguments)) c.in-Some.memory _ _ _ _ _ _ (resumed_none (starts (program_view c.args.p.now)) _ _) (λ choices. refl) (rw c.in-Some.is at c.in_ok-memory.ensures))
    (λ choices. refl) (rw (c.in_default-2.is, c.parameters.ensures) at c.in_ok-arguments.ensures)

pub returns-clause-drawn : goal.returns-clause-drawn
returns-clause-drawn g c =
    resumed_done (starts (program_view c.args.p.now)) (give (start_of c.in-Some.memory c.in-Some-2.arguments.items)) (start_of c.in-Some.memory c.in-Some-2.arguments.items) _ _ _ _
    (resumed_more (starts (program_view c.args.p.now)) (draw_arguments (program_view c.args.p.now).function.params >>= λ arguments. give (start_of c.in-Some.memory arguments)) (draw_arguments (program_view c.args.p.now).function.params) (λ arguments. give (start_of c.in-Some.memory arguments)) c.in-Some-2.arguments.items _ _ _ _ _ _
    (resumed_more (starts (program_view c.args.p.now)) (starts (program_view c.args.p.now)) (entry_memory (program_view c.args.p.now)) (λ memory. draw_arguments (program_view c.args.p.now).function.params >>= λ arguments. give (start_of memory arguments)) c.in-Some.memory _ _ _ _ _ _ (resumed_none (starts (program_view c.args.p.now)) _ _) (λ choices. refl) (rw c.in-Some.is at c.in_ok-memory.ensures))
    (λ choices. refl) (rw (c.in-Some-2.is, c.parameters.ensures) at c.in_ok-arguments.ensures))
    (λ choices. refl)

pub returns-clause-few : goal.returns-clause-few
returns-clause-few g c = λ few.
    few_from_entry (program_view c.args.p.now) c.in-Some.memory _ _ _ _ (rw length-map few) (rw c.in-Some.is at c.in_ok-memory.ensures)
