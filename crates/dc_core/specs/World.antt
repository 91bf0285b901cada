-- What a run reads and changes: the memory, the choices that are left, and what dies with the running function.
use Rattle.std.specs.Prelude.{ℕ, suc, Bool, nat_le, List, [], ◌∷◌, ◌++◌, length, map}
use Rattle.dc_core.specs.Event.{Event, Kill}
use Rattle.dc_memory.specs.declared.object.ObjKind.TheVariants.{Stack}
use Rattle.dc_memory.specs.Objects.{Memory, object_limit, holding}
use Rattle.dc_core.specs.Objects.{kill_all}

pub record World : Type 0 where
  pub memory : Memory
  pub choices : List ℕ
  -- the running function's objects, newest first
  pub locals : List ℕ

abbrev pub start_world : List ℕ → World
start_world choices = record { memory = []; choices = choices; locals = [] }

-- no further object may be created
abbrev pub is_full : World → Bool
is_full w = nat_le object_limit (length w.memory)

-- the number of the next object
abbrev pub next_object : World → ℕ
next_object w = suc (length w.memory)

-- a new stack object of these bytes
abbrev pub with_local : List ℕ → World → World
with_local bytes w =
    record w { memory = w.memory ++ holding Stack bytes ∷ []; locals = next_object w ∷ w.locals }

-- a function is left: its objects die, newest first, and the caller's are in force again
abbrev pub left : List ℕ → World → World
left outer w = record w { memory = kill_all w.locals w.memory; locals = outer }

abbrev pub kill_events : World → List Event
kill_events w = map Kill w.locals
