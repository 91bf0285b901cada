-- The text of a program in a sink.
use Rattle.std.specs.Prelude.{ℕ, List, Option}
use Rattle.dc_goto.specs.Program.{GotoProgram}
use Rattle.dc_goto.specs.Text.{IsSpelt}
use Rattle.dc_outside.specs.Sink.{Adds, AddsPrefix}

-- what the sink holds has grown by bytes that are the program's text
pub record AddsText (old new : Option (List ℕ)) (p : GotoProgram) : Type 0 where
  pub bytes : List ℕ
  pub spelt : IsSpelt bytes p
  pub added : Adds old new bytes

-- what the sink holds has grown by a prefix of bytes that are the program's text
pub record AddsTextPrefix (old new : Option (List ℕ)) (p : GotoProgram) : Type 0 where
  pub bytes : List ℕ
  pub spelt : IsSpelt bytes p
  pub added : AddsPrefix old new bytes
