-- What is drawn before the function is called, and what follows it.
use Rattle.std.specs.Prelude.{ℤ, Bool, true, false, List, [], ◌∷◌, None}
use Rattle.dc_core.specs.Event.{Blocked}
use Rattle.dc_core.specs.Choices.{Draws, ◌>>=◌, give}
use Rattle.dc_core.specs.Contract.{all_hold, set_of}
use Rattle.dc_core.specs.Entry.{static_objects, static_sizes, entry_memory, draw_arguments}
use Rattle.dc_memory.specs.Objects.{Memory}
use Rattle.dc_core.specs.Objects.{function_object}
use Rattle.dc_core.specs.Program.{Function, Program}
use Rattle.dc_core.specs.Run.{State, Out, Ended, Note, call, ensured, contract_mode}
use Rattle.dc_core.specs.Value.{Clause}
use Rattle.dc_run.specs.declared.entry.Entry.{Entry}

-- the function, and the variables behind it
abbrev pub drawn_variables : Program → Draws Memory
drawn_variables p = static_objects (static_sizes p) >>= λ statics. give (function_object ∷ statics)

-- the memory and the arguments
pub record Start : Type 0 where
  pub memory : Memory
  pub arguments : List ℤ

abbrev pub start_of : Memory → List ℤ → Start
start_of memory arguments = record { memory = memory; arguments = arguments }

abbrev pub starts : Program → Draws Start
starts p = entry_memory p >>= λ memory. draw_arguments p.function.params >>= λ arguments. give (start_of memory arguments)

abbrev pub entry_view : Entry → Start
entry_view e = start_of e.memory e.arguments.items

-- the call with its ensures, where what it requires holds
abbrev pub admitted_if : Function → List ℤ → State → Bool → Out Note
admitted_if f arguments st true =
    ensured f arguments (call contract_mode f (set_of f.contract.assigns (Clause arguments None) st.world.memory) arguments st)
admitted_if f arguments st false = Ended [] Blocked st.world

abbrev pub admitted : Function → List ℤ → State → Out Note
admitted f arguments st = admitted_if f arguments st (all_hold (Clause arguments None) st.world.memory f.contract.requires_)
