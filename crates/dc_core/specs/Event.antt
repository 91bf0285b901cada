-- What happens in a run.
use Rattle.std.specs.Prelude.{ℕ, ℤ, Bool, List, Option}

-- the number that was taken; objects by their numbers; a written range; whether a test held; the called function
pub data Event : Type 0 where
  Draw : (number : ℕ) → Event
  Create : (object : ℕ) → Event
  Kill : (object : ℕ) → Event
  Write : (object from len : ℕ) → Event
  Free : (object : ℕ) → Event
  Check : (held : Bool) → Event
  Call : (function : ℕ) → Event
  Return : Event

-- how a run ends: with a result if there is one; at an undefined act of a function; at a function without body
pub data End : Type 0 where
  Returned : (result : Option ℤ) → End
  Blocked : End
  Undefined : (function : List ℕ) → End
  NoBody : (function : List ℕ) → End
  ObjectLimit : End
  DepthLimit : End
  ChoicesEnded : End
  Cut : End
