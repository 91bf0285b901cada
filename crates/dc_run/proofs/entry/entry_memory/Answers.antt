use Rattle.std.proofs.Common.{refl}
use Rattle.dc_core.specs.Choices.{give}
use Rattle.dc_core.specs.Entry.{with_outside, entry_memory}
use Rattle.dc_core.specs.View.{program_view}
use Rattle.dc_world.proofs.Drawing.{resumed_none, resumed_more, resumed_done, resumed_dry, resumed_cut, drawing_cut}
use Rattle.dc_run.specs.Entry.{drawn_variables}
use Rattle.dc_run.proofs.Entries.{memory_parts, bind_give}
use Rattle.dc_run.proofs.entry.entry_memory.Goals as goal

pub returns-in_err-memory : goal.returns-in_err-memory
returns-in_err-memory g c =
    drawing_cut (λ memory. memory) (entry_memory (program_view c.args.p.now)) c.from_residual.result _ _ _ _ c.from_residual.ensures.0
    (resumed_cut (entry_memory (program_view c.args.p.now)) (entry_memory (program_view c.args.p.now)) (drawn_variables (program_view c.args.p.now)) with_outside _ _ _ _ _ _ (resumed_none (entry_memory (program_view c.args.p.now)) _ _) (memory_parts (program_view c.args.p.now)) c.in_err-memory.ensures)

pub returns-in_default : goal.returns-in_default
returns-in_default g c =
    resumed_dry (entry_memory (program_view c.args.p.now)) (entry_memory (program_view c.args.p.now)) (drawn_variables (program_view c.args.p.now)) with_outside _ _ _ _ _ _ (resumed_none (entry_memory (program_view c.args.p.now)) _ _) (memory_parts (program_view c.args.p.now)) (rw c.in_default.is at c.in_ok-memory.ensures)

pub returns-in_err-with_outside : goal.returns-in_err-with_outside
returns-in_err-with_outside g c =
    drawing_cut (λ memory. memory) (entry_memory (program_view c.args.p.now)) c.from_residual-in_err-with_outside.result _ _ _ _ c.from_residual-in_err-with_outside.ensures.0
    (resumed_cut (entry_memory (program_view c.args.p.now)) (with_outside c.in-Some.memory) (with_outside c.in-Some.memory) give _ _ _ _ _ _
    (resumed_more (entry_memory (program_view c.args.p.now)) (entry_memory (program_view c.args.p.now)) (drawn_variables (program_view c.args.p.now)) with_outside c.in-Some.memory _ _ _ _ _ _ (resumed_none (entry_memory (program_view c.args.p.now)) _ _) (memory_parts (program_view c.args.p.now)) (rw c.in-Some.is at c.in_ok-memory.ensures))
    (bind_give (with_outside c.in-Some.memory)) c.in_err-with_outside.ensures)

pub returns-in_default-2 : goal.returns-in_default-2
returns-in_default-2 g c =
    resumed_dry (entry_memory (program_view c.args.p.now)) (with_outside c.in-Some.memory) (with_outside c.in-Some.memory) give _ _ _ _ _ _
    (resumed_more (entry_memory (program_view c.args.p.now)) (entry_memory (program_view c.args.p.now)) (drawn_variables (program_view c.args.p.now)) with_outside c.in-Some.memory _ _ _ _ _ _ (resumed_none (entry_memory (program_view c.args.p.now)) _ _) (memory_parts (program_view c.args.p.now)) (rw c.in-Some.is at c.in_ok-memory.ensures))
    (bind_give (with_outside c.in-Some.memory)) (rw c.in_default-2.is at c.in_ok-with_outside.ensures)

pub returns : goal.returns
returns g c =
    resumed_done (entry_memory (program_view c.args.p.now)) (give c.with_outside.new.memory) c.with_outside.new.memory _ _ _ _
    (resumed_more (entry_memory (program_view c.args.p.now)) (with_outside c.in-Some.memory) (with_outside c.in-Some.memory) give c.with_outside.new.memory _ _ _ _ _ _
    (resumed_more (entry_memory (program_view c.args.p.now)) (entry_memory (program_view c.args.p.now)) (drawn_variables (program_view c.args.p.now)) with_outside c.in-Some.memory _ _ _ _ _ _ (resumed_none (entry_memory (program_view c.args.p.now)) _ _) (memory_parts (program_view c.args.p.now)) (rw c.in-Some.is at c.in_ok-memory.ensures))
    (bind_give (with_outside c.in-Some.memory)) (rw c.in-Some-2.is at c.in_ok-with_outside.ensures))
    (λ choices. refl)
