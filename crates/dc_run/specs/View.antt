-- The values of the code as the plain data that the definitions speak of. The choices that are left are no part of a
-- state.
use Rattle.std.specs.Prelude.{◌≡◌, ℕ, List, reverse, Option, Some, None}
use Rattle.dc_memory.specs.Objects.{Memory}
use Rattle.dc_core.specs.Value as plain_value
use Rattle.dc_core.specs.Run as plain
use Rattle.dc_run.specs.declared.value.Scope.{Scope}
use Rattle.dc_run.specs.declared.value.Scope.TheVariants as scope
use Rattle.dc_run.specs.declared.state.State.{State}

abbrev pub scope_view : Scope → plain_value.Scope
scope_view (scope.Body places) = plain_value.Body places.now
scope_view (scope.Clause arguments result) = plain_value.Clause arguments.now result

abbrev pub state_view : State → List ℕ → plain.State
state_view s choices =
    record {
      world = record { memory = s.memory; choices = choices; locals = reverse s.locals.items };
      left = s.left;
    }

-- what a write at a place did: it gave the place with the memory that has the value; or there is none, and the memory
-- stays as it was
abbrev pub IsWritten : Option ℕ → ℕ → Option Memory → Memory → Memory → Type 0
IsWritten None place stored old new = (stored ≡ None) × (new ≡ old)
IsWritten (Some pointer) place stored old new = (pointer ≡ place) × (stored ≡ Some new)
